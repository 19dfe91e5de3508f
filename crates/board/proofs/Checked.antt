-- What the test of the whole board finds, once its pages are examined: the places, the next place and the summary are left to ask.
use mathlib.Core.Path.{◌≡◌, sym, subst, ap, ◌∙◌}
use mathlib.Core.Bool.{Bool, true, false, ◌&&◌, cond}
use mathlib.Core.List.{List, [], ◌∷◌}
use Prim.Native.Nat.{ℕ, zero, suc, ◌≤◌, ◌<◌}
use native.Mathlib.Nat.{not-suc-le-zero, le_of_suc-le-suc}
use native.Mathlib.Omega.{arith}
use lib.Dec.{T, eqb, ltb}
use lib.ListN.{length}
use lib.Pointwise.{pointwise}
use borrow.Author.Tests.{lt-ltb, le-ltb, eq-eqb}
use Rattle.std.specs.declared.option.Option.{Option}
use Rattle.std.specs.declared.option.Option.TheVariants.{Some, None}
use Rattle.std.specs.declared.result.Result.{Result}
use Rattle.std.specs.declared.result.Result.TheVariants.{Ok, Err}
use Rattle.std.proofs.lemmas.Option.{cond_some}
use Rattle.lend.specs.declared.Count.{Count}
use Rattle.lend.specs.declared.refusal.Refusal.{Refusal}
use Rattle.lend.specs.declared.refusal.Refusal.TheVariants.{Unsound}
use Rattle.lend.specs.Sizes.{Sizes}
use Rattle.lend.specs.Lists.{every}
use Rattle.lend.specs.Tables.{Tables, Shaped, table_of}
use Rattle.lend.specs.Summary.{count_at}
use Rattle.lend.specs.SoundTest.{pages_test, same_count, same_counts, sound_test}
use Rattle.lend_basics.proofs.Bools.{and_l, and_r, and_i, and_false, true_is, same_test}
use Rattle.lend_basics.proofs.Lists.{each, every_of}
use Rattle.lend_code.specs.Inner.{places_fit}
use Rattle.lend_code.proofs.SoundCode.{unfit, rest_sound}
use Rattle.board.specs.declared.sound.Pages.{Pages}
use Rattle.board.specs.Found.{pages_of}
use Rattle.board.proofs.Examined.{none_false}

-- ── two summaries by `==` ────────────────────────────────────────────────
module _ (eq : Count → Count → Bool) where
  pairs : (s t : List Count) → T (pointwise eq s t) → (k : ℕ) → k < length s → T (eq (count_at s k) (count_at t k))
  pairs [] t h k l = absurd (not-suc-le-zero l)
  pairs (x ∷ s) [] h k l = absurd h
  pairs (x ∷ s) (y ∷ t) h zero l = and_l (eq x y) (pointwise eq s t) h
  pairs (x ∷ s) (y ∷ t) h (suc k) l = pairs s t (and_r (eq x y) (pointwise eq s t) h) k (le_of_suc-le-suc l)

  all_pairs : (s t : List Count) → length s ≡ length t → ((k : ℕ) → k < length s → T (eq (count_at s k) (count_at t k))) → T (pointwise eq s t)
  all_pairs [] [] e h = tt
  all_pairs [] (y ∷ t) e h = absurd (omega arith)
  all_pairs (x ∷ s) [] e h = absurd (omega arith)
  all_pairs (x ∷ s) (y ∷ t) e h = and_i (eq x y) (pointwise eq s t) (h 0 (omega arith)) (all_pairs s t (omega arith) (λ k l. h (suc k) (omega arith)))

  -- it is the test of the definitions
  pub same_pairs : (z : Sizes) (s t : List Count) → ((a b : Count) → eq a b ≡ same_count a b) → length s ≡ z.pages → length t ≡ z.pages → pointwise eq s t ≡ same_counts z s t
  same_pairs z s t e ls lt = same_test (pointwise eq s t) (same_counts z s t)
      (λ h. and_i (eqb (length s) z.pages) (every z.pages same) (true_is _ (eq-eqb (length s) z.pages ls)) (every_of z.pages same (λ k l.
      subst T (e (count_at s k) (count_at t k)) (pairs s t h k (omega (arith, ls))))))
      (λ h. all_pairs s t (ls ∙ sym lt) (λ k l.
      subst T (sym (e (count_at s k) (count_at t k))) (each z.pages same (and_r (eqb (length s) z.pages) (every z.pages same) h) k (omega (arith, ls)))))
    where
      same : ℕ → Bool
      same k = same_count (count_at s k) (count_at t k)

-- ── the board ────────────────────────────────────────────────────────────
module _ {pages slots : ℕ} (z : Sizes) (b : Tables) (shape : Shaped z b) where
  -- what is to be found
  abbrev pub Checked : Result (Pages pages slots) Refusal → Type 0
  Checked r = r ≡ cond (sound_test z b) (Ok (pages_of z b.slots)) (Err Unsound)

  -- what was found of the pages
  abbrev examined : Option (Pages pages slots)
  examined = cond (pages_test z b.live (table_of b)) (Some (pages_of z b.slots)) None

  wrong : false ≡ sound_test z b → Checked (Err Unsound)
  wrong e = rw (← e)

  pub pages_wrong : None ≡ examined → Checked (Err Unsound)
  pages_wrong e = wrong (unfit z b shape (none_false (pages_test z b.live (table_of b)) _ e))

  module _ (p : Pages pages slots) (e : Some p ≡ examined) where
    found : (pages_test z b.live (table_of b) ≡ true) × (pages_of z b.slots ≡ p)
    found = cond_some (pages_test z b.live (table_of b)) (pages_of z b.slots) p (sym e)

    rest : (places_fit z p.rights p.frames b.places && ltb b.next z.places && same_counts z b.summary p.counts) ≡ sound_test z b
    rest = rest_sound z b shape found.0 p.rights p.frames (λ i. (sym found.1 i).rights) (λ i. (sym found.1 i).frames) p.counts (λ i. (sym found.1 i).counts)

    pub places_wrong : places_fit z p.rights p.frames b.places ≡ false → Checked (Err Unsound)
    places_wrong f = wrong (sym (sym rest ∙ rw f))

    pub next_wrong : z.places ≤ b.next → Checked (Err Unsound)
    next_wrong h = wrong (sym (sym rest ∙ rw (le-ltb b.next z.places h, and_false (places_fit z p.rights p.frames b.places))))

    pub summary_wrong : same_counts z b.summary p.counts ≡ false → Checked (Err Unsound)
    summary_wrong s = wrong (sym (sym rest ∙ rw (s, and_false (places_fit z p.rights p.frames b.places && ltb b.next z.places))))

    pub all_right : places_fit z p.rights p.frames b.places ≡ true → b.next < z.places → same_counts z b.summary p.counts ≡ true → Checked (Ok p)
    all_right f h s = let t : sound_test z b ≡ true = sym rest ∙ rw (f, lt-ltb b.next z.places h, s) in rw t (ap Ok (sym found.1))
