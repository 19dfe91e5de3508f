-- The view that the contract of a look at a page uses loses nothing, so the contract admits one result. (The views of public functions: code_demands.)
use Prim.Native.Nat.{ℕ}
use mathlib.Core.Path.{◌≡◌, refl, sym, ap, ◌∙◌}
use mathlib.Core.Bool.{cond}
use Rattle.std.specs.declared.option.Option.{Option}
use Rattle.std.specs.declared.option.Option.TheVariants.{Some, None}
use Rattle.lend.specs.Tables.{Tables}
use Rattle.lend_code.specs.Access.{Look}
use Rattle.access.specs.declared.look.Seen.{Seen}
use Rattle.access.specs.Answers.{was_hit, links_followed, seen}

-- a look at a page, whose contract is `seen r (tables b) ≡ ..`
pub seen_back : Look → Seen
seen_back l = record { frame = l.frame; followed = cond l.hit None (Some l.links) }

seen_backs : (s : Seen) (t : Tables) → seen_back (seen s t) ≡ s
unfolding seen_back
seen_backs s t = ap (λ (x : Option ℕ). record { frame = s.frame; followed = x }) (at s.followed)
  where
    at : (x : Option ℕ) → cond (was_hit x) None (Some (links_followed x)) ≡ x
    at None = refl
    at (Some n) = refl

pub seen_of_seen : (s : Seen) (t : Tables) → (seen_back (seen s t) ≡ s) × ((seen s t).board ≡ t)
seen_of_seen s t = (seen_backs s t, refl)

pub one_look : {meaning : Look} {r s : Seen} {t u : Tables} → seen r t ≡ meaning → seen s u ≡ meaning → (r ≡ s) × (t ≡ u)
one_look {r = r} {s = s} {t = t} {u = u} v w =
    let e = v ∙ sym w in (sym (seen_backs r t) ∙ (ap seen_back e ∙ seen_backs s u), ap (λ (l : Look). l.board) e)
