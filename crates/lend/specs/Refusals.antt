-- The numbers of the refusals, and the first refusal that holds (01, 'Numbers that come back').
use Rattle.std.specs.Prelude.{ℕ, ◌≡◌, refl, Bool, false, cond, List, [], ◌∷◌, eqb}
use Rattle.std.specs.declared.result.Result.{Result}
use Rattle.std.specs.declared.result.Result.TheVariants.{Ok, Err}
use Rattle.lend.specs.declared.refusal.Refusal.{Refusal}
use Rattle.lend.specs.declared.refusal.Refusal.TheVariants.{Unsound, MemoryLength, NoSpace, NotLive, NoPage, BadRights, InvalidRange, UnequalRanges, ShutSpace, AlreadyLive, NotHeld, MissingRights, SpaceOnLine, SourceBelowTaker, TakerBelowSource, MalformedLine, MalformedListing, DisorderedListing, ShortBuffer}

abbrev pub number_of : Refusal → ℕ
number_of Unsound = 1
number_of MemoryLength = 2
number_of NoSpace = 3
number_of NotLive = 4
number_of NoPage = 5
number_of BadRights = 6
number_of InvalidRange = 7
number_of UnequalRanges = 8
number_of ShutSpace = 9
number_of AlreadyLive = 10
number_of NotHeld = 11
number_of MissingRights = 12
number_of SpaceOnLine = 13
number_of SourceBelowTaker = 14
number_of TakerBelowSource = 15
number_of MalformedLine = 16
number_of MalformedListing = 17
number_of DisorderedListing = 18
number_of ShortBuffer = 20

-- the number that an answer gives: 0 where it is done
abbrev pub answer_of : {A : Type 0} → Result A Refusal → ℕ
answer_of (Ok a) = 0
answer_of (Err r) = number_of r

-- of tests with a refusal each, the number of the first whose test holds, and 0 where none does
abbrev pub first_of : List (Bool × Refusal) → ℕ
first_of [] = 0
first_of (c ∷ cs) = cond c.0 (number_of c.1) (first_of cs)

-- ── and back ─────────────────────────────────────────────────────────────
-- the refusal of a number of the table: no two share one
abbrev pub refusal_of : ℕ → Refusal
refusal_of n =
    cond (eqb n 2) MemoryLength
    (cond (eqb n 3) NoSpace
    (cond (eqb n 4) NotLive
    (cond (eqb n 5) NoPage
    (cond (eqb n 6) BadRights
    (cond (eqb n 7) InvalidRange
    (cond (eqb n 8) UnequalRanges
    (cond (eqb n 9) ShutSpace
    (cond (eqb n 10) AlreadyLive
    (cond (eqb n 11) NotHeld
    (cond (eqb n 12) MissingRights
    (cond (eqb n 13) SpaceOnLine
    (cond (eqb n 14) SourceBelowTaker
    (cond (eqb n 15) TakerBelowSource
    (cond (eqb n 16) MalformedLine
    (cond (eqb n 17) MalformedListing
    (cond (eqb n 18) DisorderedListing
    (cond (eqb n 20) ShortBuffer Unsound)))))))))))))))))

pub refusal_of_number : (r : Refusal) → refusal_of (number_of r) ≡ r
refusal_of_number Unsound = refl
refusal_of_number MemoryLength = refl
refusal_of_number NoSpace = refl
refusal_of_number NotLive = refl
refusal_of_number NoPage = refl
refusal_of_number BadRights = refl
refusal_of_number InvalidRange = refl
refusal_of_number UnequalRanges = refl
refusal_of_number ShutSpace = refl
refusal_of_number AlreadyLive = refl
refusal_of_number NotHeld = refl
refusal_of_number MissingRights = refl
refusal_of_number SpaceOnLine = refl
refusal_of_number SourceBelowTaker = refl
refusal_of_number TakerBelowSource = refl
refusal_of_number MalformedLine = refl
refusal_of_number MalformedListing = refl
refusal_of_number DisorderedListing = refl
refusal_of_number ShortBuffer = refl

-- and none has 0, the number of what is done
pub refusal_not_done : (r : Refusal) → eqb (number_of r) 0 ≡ false
refusal_not_done Unsound = refl
refusal_not_done MemoryLength = refl
refusal_not_done NoSpace = refl
refusal_not_done NotLive = refl
refusal_not_done NoPage = refl
refusal_not_done BadRights = refl
refusal_not_done InvalidRange = refl
refusal_not_done UnequalRanges = refl
refusal_not_done ShutSpace = refl
refusal_not_done AlreadyLive = refl
refusal_not_done NotHeld = refl
refusal_not_done MissingRights = refl
refusal_not_done SpaceOnLine = refl
refusal_not_done SourceBelowTaker = refl
refusal_not_done TakerBelowSource = refl
refusal_not_done MalformedLine = refl
refusal_not_done MalformedListing = refl
refusal_not_done DisorderedListing = refl
refusal_not_done ShortBuffer = refl
