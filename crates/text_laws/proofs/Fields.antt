-- Keys and fields: read where they are written, and written where they are read.
use Prim.Native.Nat.{ℕ, ◌≤◌}
use mathlib.Core.Path.{◌≡◌, refl, sym, ap, ◌∙◌}
use mathlib.Core.Bool.{Bool, true, false, cond}
use mathlib.Core.List.{List, [], ◌∷◌, ◌++◌, append_assoc}
use lib.Dec.{eqb}
use borrow.Author.Tests.{eq-eqb, eqb-true}
use Rattle.std.specs.Prelude.{Option, Some, None, option_and_then}
use Rattle.text.specs.Decimal.{decimal, number}
use Rattle.text.specs.Fields.{after_key, field}
use Rattle.text.specs.Write.{entry}
use Rattle.text_laws.proofs.Numbers.{most_read, Stop, number_read, number_back}

-- ── keys ─────────────────────────────────────────────────────────────────
key_read : (key post : List ℕ) → after_key key (key ++ post) ≡ Some post
unfolding after_key
key_read [] post = refl
key_read (k ∷ key) post = rw (eq-eqb k k refl) (key_read key post)

key_back : (key s rest : List ℕ) → after_key key s ≡ Some rest → s ≡ key ++ rest
unfolding after_key
key_back [] s rest e = cc
key_back (k ∷ key) [] rest e = absurd (cc)
key_back (k ∷ key) (b ∷ s) rest e = go (eqb b k) refl e (key_back key s rest)
  where
    go : (t : Bool) → eqb b k ≡ t → cond t (after_key key s) None ≡ Some rest → (after_key key s ≡ Some rest → s ≡ key ++ rest) → b ∷ s ≡ k ∷ key ++ rest
    go true q e f = let i = eqb-true b k q in let j = f e in cc
    go false q e f = absurd (cc)

-- ── fields ───────────────────────────────────────────────────────────────
-- a field that is written is read
pub field_read : (key : List ℕ) (n : ℕ) (post : List ℕ) → n ≤ most_read → Stop post → field key (entry key n ++ post) ≡ Some (n, post)
unfolding field entry
field_read key n post h o = rw (append_assoc key (decimal n) post, key_read key (decimal n ++ post)) (number_read n post h o)

-- the field and the bytes after it are these bytes
abbrev pub Held : List ℕ → List ℕ → ℕ × List ℕ → Type 0
Held key s p = (p.0 ≤ most_read) × (s ≡ entry key p.0 ++ p.1)

-- a field that is read stands there as it is written
pub field_back : (key s : List ℕ) (p : ℕ × List ℕ) → field key s ≡ Some p → Held key s p
unfolding field entry
field_back key s p e = go (after_key key s) refl e
  where
    go : (o : Option (List ℕ)) → after_key key s ≡ o → option_and_then number o ≡ Some p → Held key s p
    go None q e = absurd (cc)
    go (Some rest) q e =
        let w = number_back rest p e in
        (w.0, key_back key s rest q ∙ ap (λ (l : List ℕ). key ++ l) w.1 ∙ sym (append_assoc key (decimal p.0) p.1))
