-- What `request_of` accepts is exactly the document's forms: a line asks for q just where it is q spelt, and none is over 61 bytes.
use Prim.Native.Nat.{ℕ, ◌≤◌}
use mathlib.Core.Path.{◌≡◌, refl, sym, ap, ◌∙◌}
use mathlib.Core.Bool.{Bool, true, false, cond}
use mathlib.Core.List.{List}
use native.Mathlib.Omega.{arith}
use lib.ListN.{length, get_or, length-append}
use lib.Dec.{ltb}
use borrow.Author.Tests.{le-ltb}
use Rattle.std.specs.Prelude.{Option, Some, None, option_map}
use Rattle.text.specs.declared.Request.{Request}
use Rattle.text.specs.declared.Request.TheVariants.{Create, Delete, Unmap, Flush, Map, Grant, Translate}
use Rattle.text.specs.Ascii.{bytes}
use Rattle.text.specs.Decimal.{decimal, decimal_in}
use Rattle.text.specs.Write.{entry}
use Rattle.text.specs.Request.{spell, of_one, of_three, of_five, create_in, delete_in, unmap_in, flush_in, map_in, grant_in, translate_in, ◌or◌, request_of}
use Rattle.text.proofs.Digits.{decimal_shorter}
use Rattle.text_laws.proofs.Numbers.{most_read}
use Rattle.text_laws.proofs.Forms.{one_back, three_back, five_back, one_read, three_read, five_read}

-- a request that a line can ask for: its numbers have at most five digits
abbrev pub WellFormed : Request → Type 0
WellFormed (Create s) = s ≤ most_read
WellFormed (Delete s) = s ≤ most_read
WellFormed (Unmap s p r) = (s ≤ most_read) × (p ≤ most_read) × (r ≤ most_read)
WellFormed (Flush s p r) = (s ≤ most_read) × (p ≤ most_read) × (r ≤ most_read)
WellFormed (Map f p t a r) = (f ≤ most_read) × (p ≤ most_read) × (t ≤ most_read) × (a ≤ most_read) × (r ≤ most_read)
WellFormed (Grant f p t a r) = (f ≤ most_read) × (p ≤ most_read) × (t ≤ most_read) × (a ≤ most_read) × (r ≤ most_read)
WellFormed (Translate s a r) = (s ≤ most_read) × (a ≤ most_read) × (r ≤ most_read)

-- ── read, then spelt ─────────────────────────────────────────────────────
-- s is q spelt
abbrev pub Spelt : List ℕ → Request → Type 0
Spelt s q = (s ≡ spell q) × WellFormed q

module _ (s : List ℕ) (q : Request) where
  of_form : (f : List ℕ → Request) (o : Option (List ℕ)) → ((ns : List ℕ) → o ≡ Some ns → Spelt s (f ns)) → option_map f o ≡ Some q → Spelt s q
  of_form f None g e = absurd (cc)
  of_form f (Some ns) g e = let z : f ns ≡ q = cc in rw (← z) (g ns refl)

  either : (o p : Option Request) → (o ≡ Some q → Spelt s q) → (p ≡ Some q → Spelt s q) → (o or p) ≡ Some q → Spelt s q
  either None p f g e = g e
  either (Some r) p f g e = f e

  create_back : create_in s ≡ Some q → Spelt s q
  unfolding create_in spell
  create_back = of_form _ _ (λ ns i. one_back s (bytes "op=create space=") ns i)

  delete_back : delete_in s ≡ Some q → Spelt s q
  unfolding delete_in spell
  delete_back = of_form _ _ (λ ns i. one_back s (bytes "op=delete space=") ns i)

  unmap_back : unmap_in s ≡ Some q → Spelt s q
  unfolding unmap_in spell
  unmap_back = of_form _ _ (λ ns i. three_back s (bytes "op=unmap space=") (bytes " page=") (bytes " rights=") ns i)

  flush_back : flush_in s ≡ Some q → Spelt s q
  unfolding flush_in spell
  flush_back = of_form _ _ (λ ns i. three_back s (bytes "op=flush space=") (bytes " page=") (bytes " rights=") ns i)

  map_back : map_in s ≡ Some q → Spelt s q
  unfolding map_in spell
  map_back = of_form _ _ (λ ns i. five_back s (bytes "op=map from=") (bytes " page=") (bytes " to=") (bytes " at=") (bytes " rights=") ns i)

  grant_back : grant_in s ≡ Some q → Spelt s q
  unfolding grant_in spell
  grant_back = of_form _ _ (λ ns i. five_back s (bytes "op=grant from=") (bytes " page=") (bytes " to=") (bytes " at=") (bytes " rights=") ns i)

  translate_back : translate_in s ≡ Some q → Spelt s q
  unfolding translate_in spell
  translate_back = of_form _ _ (λ ns i. three_back s (bytes "op=translate space=") (bytes " address=") (bytes " rights=") ns i)

-- a line that asks for something is its request, spelt
pub request_back : (s : List ℕ) (q : Request) → request_of s ≡ Some q → Spelt s q
unfolding request_of
request_back s q e = limit (ltb 80 (length s)) e
  where
    limit : (t : Bool) → cond t None (create_in s or delete_in s or unmap_in s or flush_in s or map_in s or grant_in s or translate_in s) ≡ Some q → Spelt s q
    limit true e = absurd (cc)
    limit false e =
        either s q _ _
        (either s q _ _
        (either s q _ _
        (either s q _ _
        (either s q _ _ (either s q _ _ (create_back s q) (delete_back s q)) (unmap_back s q)) (flush_back s q))
        (map_back s q))
        (grant_back s q))
        (translate_back s q)
        e

-- ── how long a line is ───────────────────────────────────────────────────
five_digits : (n : ℕ) → n ≤ most_read → length (decimal n) ≤ 5
five_digits n h = decimal_shorter 4 n (omega arith)

-- no well-formed line has more than 61 bytes
spell_longest : (q : Request) → WellFormed q → length (spell q) ≤ 61
unfolding spell entry
spell_longest (Create s) h = simp length-append (omega (arith, five_digits s h))
spell_longest (Delete s) h = simp length-append (omega (arith, five_digits s h))
spell_longest (Unmap s p r) (h, i, j) = simp length-append (omega (arith, five_digits s h, five_digits p i, five_digits r j))
spell_longest (Flush s p r) (h, i, j) = simp length-append (omega (arith, five_digits s h, five_digits p i, five_digits r j))
spell_longest (Map f p t a r) (h, i, j, k, l) =
    simp length-append (omega (arith, five_digits f h, five_digits p i, five_digits t j, five_digits a k, five_digits r l))
spell_longest (Grant f p t a r) (h, i, j, k, l) =
    simp length-append (omega (arith, five_digits f h, five_digits p i, five_digits t j, five_digits a k, five_digits r l))
spell_longest (Translate s a r) (h, i, j) = simp length-append (omega (arith, five_digits s h, five_digits a i, five_digits r j))

-- and one has 61
pub longest_line_law : length (spell (Grant most_read most_read most_read most_read most_read)) ≡ 61
unfolding spell entry decimal decimal_in
longest_line_law = refl

-- every spelling begins with a key and more: none has fewer than 16 bytes
pub spell_shortest : (q : Request) → WellFormed q → 16 ≤ length (spell q)
unfolding spell entry
spell_shortest (Create s) h = simp length-append (omega arith)
spell_shortest (Delete s) h = simp length-append (omega arith)
spell_shortest (Unmap s p r) h = simp length-append (omega arith)
spell_shortest (Flush s p r) h = simp length-append (omega arith)
spell_shortest (Map f p t a r) h = simp length-append (omega arith)
spell_shortest (Grant f p t a r) h = simp length-append (omega arith)
spell_shortest (Translate s a r) h = simp length-append (omega arith)

-- ── spelt, then read ─────────────────────────────────────────────────────
-- the fourth byte tells the forms apart
module _ (s : List ℕ) (d : ℕ) (e : get_or s 3 0 ≡ d) where
  other_form : (f : List ℕ → Request) (o : Option (List ℕ)) (c : ℕ) → ((ns : List ℕ) → o ≡ Some ns → get_or s 3 0 ≡ c) → (c ≡ d → ⊥) → option_map f o ≡ None
  other_form f None c g n = refl
  other_form f (Some ns) c g n = absurd (n (sym (g ns refl) ∙ e))

  not_create : (99 ≡ d → ⊥) → create_in s ≡ None
  unfolding create_in entry
  not_create n = other_form _ _ 99 (λ ns i. ap (λ (l : List ℕ). get_or l 3 0) (one_back s (bytes "op=create space=") ns i).0) n

  not_delete : (100 ≡ d → ⊥) → delete_in s ≡ None
  unfolding delete_in entry
  not_delete n = other_form _ _ 100 (λ ns i. ap (λ (l : List ℕ). get_or l 3 0) (one_back s (bytes "op=delete space=") ns i).0) n

  not_unmap : (117 ≡ d → ⊥) → unmap_in s ≡ None
  unfolding unmap_in entry
  not_unmap n = other_form _ _ 117 (λ ns i. ap (λ (l : List ℕ). get_or l 3 0) (three_back s (bytes "op=unmap space=") (bytes " page=") (bytes " rights=") ns i).0) n

  not_flush : (102 ≡ d → ⊥) → flush_in s ≡ None
  unfolding flush_in entry
  not_flush n = other_form _ _ 102 (λ ns i. ap (λ (l : List ℕ). get_or l 3 0) (three_back s (bytes "op=flush space=") (bytes " page=") (bytes " rights=") ns i).0) n

  not_map : (109 ≡ d → ⊥) → map_in s ≡ None
  unfolding map_in entry
  not_map n = other_form _ _ 109 (λ ns i. ap (λ (l : List ℕ). get_or l 3 0) (five_back s (bytes "op=map from=") (bytes " page=") (bytes " to=") (bytes " at=") (bytes " rights=") ns i).0) n

  not_grant : (103 ≡ d → ⊥) → grant_in s ≡ None
  unfolding grant_in entry
  not_grant n = other_form _ _ 103 (λ ns i. ap (λ (l : List ℕ). get_or l 3 0) (five_back s (bytes "op=grant from=") (bytes " page=") (bytes " to=") (bytes " at=") (bytes " rights=") ns i).0) n

-- each form reads its own line
create_read : (s : ℕ) → WellFormed (Create s) → create_in (spell (Create s)) ≡ Some (Create s)
unfolding create_in spell
create_read s h = ap (option_map (of_one Create)) (one_read (bytes "op=create space=") s h)

delete_read : (s : ℕ) → WellFormed (Delete s) → delete_in (spell (Delete s)) ≡ Some (Delete s)
unfolding delete_in spell
delete_read s h = ap (option_map (of_one Delete)) (one_read (bytes "op=delete space=") s h)

unmap_read : (s p r : ℕ) → WellFormed (Unmap s p r) → unmap_in (spell (Unmap s p r)) ≡ Some (Unmap s p r)
unfolding unmap_in spell
unmap_read s p r (h, i, j) = ap (option_map (of_three Unmap)) (three_read (bytes "op=unmap space=") (bytes "page=") (bytes "rights=") s p r h i j)

flush_read : (s p r : ℕ) → WellFormed (Flush s p r) → flush_in (spell (Flush s p r)) ≡ Some (Flush s p r)
unfolding flush_in spell
flush_read s p r (h, i, j) = ap (option_map (of_three Flush)) (three_read (bytes "op=flush space=") (bytes "page=") (bytes "rights=") s p r h i j)

map_read : (f p t a r : ℕ) → WellFormed (Map f p t a r) → map_in (spell (Map f p t a r)) ≡ Some (Map f p t a r)
unfolding map_in spell
map_read f p t a r (h, i, j, k, l) = ap (option_map (of_five Map)) (five_read (bytes "op=map from=") (bytes "page=") (bytes "to=") (bytes "at=") (bytes "rights=") f p t a r h i j k l)

grant_read : (f p t a r : ℕ) → WellFormed (Grant f p t a r) → grant_in (spell (Grant f p t a r)) ≡ Some (Grant f p t a r)
unfolding grant_in spell
grant_read f p t a r (h, i, j, k, l) = ap (option_map (of_five Grant)) (five_read (bytes "op=grant from=") (bytes "page=") (bytes "to=") (bytes "at=") (bytes "rights=") f p t a r h i j k l)

translate_read : (s a r : ℕ) → WellFormed (Translate s a r) → translate_in (spell (Translate s a r)) ≡ Some (Translate s a r)
unfolding translate_in spell
translate_read s a r (h, i, j) = ap (option_map (of_three Translate)) (three_read (bytes "op=translate space=") (bytes "address=") (bytes "rights=") s a r h i j)

-- the limit of 80 bytes refuses no spelling
within_limit : (q : Request) → WellFormed q → ltb 80 (length (spell q)) ≡ false
within_limit q h = let l = spell_longest q h in le-ltb 80 (length (spell q)) (omega arith)

-- a request that is spelt is read
request_read : (q : Request) → WellFormed q → request_of (spell q) ≡ Some q
unfolding request_of spell entry
request_read (Create s) h = let line = spell (Create s) in rw (within_limit (Create s) h, create_read s h)
request_read (Delete s) h = let line = spell (Delete s) in rw (within_limit (Delete s) h, not_create line 100 refl (λ z. omega (arith, z)), delete_read s h)
request_read (Unmap s p r) h = let line = spell (Unmap s p r) in rw (within_limit (Unmap s p r) h, not_create line 117 refl (λ z. omega (arith, z)), not_delete line 117 refl (λ z. omega (arith, z)), unmap_read s p r h)
request_read (Flush s p r) h = let line = spell (Flush s p r) in rw (within_limit (Flush s p r) h, not_create line 102 refl (λ z. omega (arith, z)), not_delete line 102 refl (λ z. omega (arith, z)), not_unmap line 102 refl (λ z. omega (arith, z)), flush_read s p r h)
request_read (Map f p t a r) h = let line = spell (Map f p t a r) in rw (within_limit (Map f p t a r) h, not_create line 109 refl (λ z. omega (arith, z)), not_delete line 109 refl (λ z. omega (arith, z)), not_unmap line 109 refl (λ z. omega (arith, z)), not_flush line 109 refl (λ z. omega (arith, z)), map_read f p t a r h)
request_read (Grant f p t a r) h = let line = spell (Grant f p t a r) in rw (within_limit (Grant f p t a r) h, not_create line 103 refl (λ z. omega (arith, z)), not_delete line 103 refl (λ z. omega (arith, z)), not_unmap line 103 refl (λ z. omega (arith, z)), not_flush line 103 refl (λ z. omega (arith, z)), not_map line 103 refl (λ z. omega (arith, z)), grant_read f p t a r h)
request_read (Translate s a r) h = let line = spell (Translate s a r) in rw (within_limit (Translate s a r) h, not_create line 116 refl (λ z. omega (arith, z)), not_delete line 116 refl (λ z. omega (arith, z)), not_unmap line 116 refl (λ z. omega (arith, z)), not_flush line 116 refl (λ z. omega (arith, z)), not_map line 116 refl (λ z. omega (arith, z)), not_grant line 116 refl (λ z. omega (arith, z)), translate_read s a r h)

-- ── both ways ────────────────────────────────────────────────────────────
-- a line asks for q exactly where it is q spelt
pub accepted : (s : List ℕ) (q : Request) → WellFormed q → (request_of s ≡ Some q → s ≡ spell q) × (s ≡ spell q → request_of s ≡ Some q)
accepted s q h = ((λ e. (request_back s q e).0), λ e. rw e (request_read q h))

-- no line asks for a request that cannot be spelt: every other line asks for nothing
pub refused : (s : List ℕ) → ((q : Request) → WellFormed q → s ≡ spell q → ⊥) → request_of s ≡ None
refused s n = go (request_of s) (request_back s)
  where
    go : (o : Option Request) → ((q : Request) → o ≡ Some q → Spelt s q) → o ≡ None
    go None f = refl
    go (Some q) f = let w = f q refl in absurd (n q w.1 w.0)

-- the limit of 80 bytes never refuses a well-formed line: a line that is longer is none
pub limit_unseen : (s : List ℕ) (q : Request) → WellFormed q → 62 ≤ length s → request_of s ≡ Some q → ⊥
limit_unseen s q h l e =
    let f : length s ≡ length (spell q) = ap length ((accepted s q h).0 e) in
    let m = spell_longest q h in
    absurd (omega arith)
