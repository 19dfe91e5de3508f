-- A line of keys with their numbers: read where it is written, and written where it is read.
use Prim.Native.Nat.{ℕ, ◌≤◌}
use mathlib.Core.Path.{◌≡◌, refl, sym, ap, ◌∙◌}
use mathlib.Core.List.{List, [], ◌∷◌, ◌++◌, append_assoc, append-nil}
use native.Mathlib.Omega.{arith}
use lib.ListN.{get_or}
use Rattle.std.specs.Prelude.{Option, Some, None, option_map, option_and_then}
use Rattle.text.specs.Decimal.{digit_of}
use Rattle.text.specs.Fields.{field, fields}
use Rattle.text.specs.Write.{entry}
use Rattle.text_laws.proofs.Numbers.{most_read, Stop}
use Rattle.text_laws.proofs.Fields.{Held, field_back, field_read}

-- the line of these keys and numbers
abbrev pub line_of : List (List ℕ) → List ℕ → List ℕ
line_of [] ns = []
line_of (key ∷ keys) [] = []
line_of (key ∷ keys) (n ∷ ns) = entry key n ++ line_of keys ns

-- so many small numbers
abbrev pub Small : List (List ℕ) → List ℕ → Type 0
Small [] [] = Unit {0}
Small [] (n ∷ ns) = ⊥
Small (key ∷ keys) [] = ⊥
Small (key ∷ keys) (n ∷ ns) = (n ≤ most_read) × Small keys ns

-- ── read, then written ───────────────────────────────────────────────────
pub fields_back : (keys : List (List ℕ)) (s ns : List ℕ) → fields keys s ≡ Some ns → (s ≡ line_of keys ns) × Small keys ns
unfolding fields
fields_back [] [] ns e = let z : [] ≡ ns = cc in rw (← z) (refl, tt)
fields_back [] (b ∷ s) ns e = absurd (cc)
fields_back (key ∷ keys) s ns e = go (field key s) refl e (λ rest ms q. fields_back keys rest ms q)
  where
    all : (n : ℕ) (rest : List ℕ) (o : Option (List ℕ)) → Held key s (n, rest) → fields keys rest ≡ o → option_map (λ ms. n ∷ ms) o ≡ Some ns
        → ((ms : List ℕ) → fields keys rest ≡ Some ms → (rest ≡ line_of keys ms) × Small keys ms)
        → (s ≡ line_of (key ∷ keys) ns) × Small (key ∷ keys) ns
    all n rest None h q e f = absurd (cc)
    all n rest (Some ms) h q e f =
        let z : n ∷ ms ≡ ns = cc in
        let w = f ms q in
        rw (← z) (h.1 ∙ ap (λ (l : List ℕ). entry key n ++ l) w.0, (h.0, w.1))

    go : (o : Option (ℕ × List ℕ)) → field key s ≡ o → option_and_then (λ p. option_map (λ ms. p.0 ∷ ms) (fields keys p.1)) o ≡ Some ns
        → ((rest ms : List ℕ) → fields keys rest ≡ Some ms → (rest ≡ line_of keys ms) × Small keys ms)
        → (s ≡ line_of (key ∷ keys) ns) × Small (key ∷ keys) ns
    go None q e f = absurd (cc)
    go (Some p) q e f = all p.0 p.1 (fields keys p.1) (field_back key s p q) refl e (f p.1)

-- ── written, then read ───────────────────────────────────────────────────
-- keys that start with a space, as all do but a line's first: such a key stops a number
abbrev pub Spaced : List (List ℕ) → Type 0
Spaced [] = Unit {0}
Spaced (key ∷ keys) = (get_or key 0 0 ≡ 32) × Spaced keys

abbrev pub SpacedAfter : List (List ℕ) → Type 0
SpacedAfter [] = Unit {0}
SpacedAfter (key ∷ keys) = Spaced keys

spaced_after : (keys : List (List ℕ)) → Spaced keys → SpacedAfter keys
spaced_after [] h = tt
spaced_after (key ∷ keys) h = h.1

stop_space : (b : ℕ) → b ≡ 32 → None ≡ digit_of b
unfolding digit_of
stop_space b e = rw e

stop_line : (keys : List (List ℕ)) (ns : List ℕ) → Spaced keys → Stop (line_of keys ns)
unfolding entry
stop_line [] ns h = tt
stop_line (key ∷ keys) [] h = tt
stop_line ([] ∷ keys) (n ∷ ns) h = absurd (omega (arith, h.0))
stop_line ((b ∷ key) ∷ keys) (n ∷ ns) h = stop_space b h.0

pub fields_read : (keys : List (List ℕ)) (ns : List ℕ) → SpacedAfter keys → Small keys ns → fields keys (line_of keys ns) ≡ Some ns
unfolding fields
fields_read [] [] o h = refl
fields_read [] (n ∷ ns) o h = absurd h
fields_read (key ∷ keys) [] o h = absurd h
fields_read (key ∷ keys) (n ∷ ns) o h =
    rw (field_read key n (line_of keys ns) h.0 (stop_line keys ns o)) (ap (option_map (λ ms. n ∷ ms)) (fields_read keys ns (spaced_after keys o) h.1))

-- ── lines of one, three and five fields ──────────────────────────────────
-- the fields of a line of three, spelt, with small numbers
abbrev pub Three : List ℕ → List ℕ → List ℕ → List ℕ → ℕ → ℕ → ℕ → Type 0
Three s k l m a b c = (s ≡ entry k a ++ entry l b ++ entry m c) × ((a ≤ most_read) × (b ≤ most_read) × (c ≤ most_read))

-- the fields of a line of five
abbrev pub Five : List ℕ → List ℕ → List ℕ → List ℕ → List ℕ → List ℕ → ℕ → ℕ → ℕ → ℕ → ℕ → Type 0
Five s k l m n o a b c d e =
    (s ≡ entry k a ++ entry l b ++ entry m c ++ entry n d ++ entry o e)
    × ((a ≤ most_read) × (b ≤ most_read) × (c ≤ most_read) × (d ≤ most_read) × (e ≤ most_read))

pub one_back : (s k ns : List ℕ) → fields (k ∷ []) s ≡ Some ns → (s ≡ entry k (get_or ns 0 0)) × (get_or ns 0 0 ≤ most_read)
one_back s k ns e = go ns (fields_back (k ∷ []) s ns e)
  where
    go : (ns : List ℕ) → (s ≡ line_of (k ∷ []) ns) × Small (k ∷ []) ns → (s ≡ entry k (get_or ns 0 0)) × (get_or ns 0 0 ≤ most_read)
    go [] w = absurd w.1
    go (a ∷ []) w = (w.0 ∙ append-nil (entry k a), w.1.0)
    go (a ∷ b ∷ ns) w = absurd w.1.1

pub three_back : (s k l m ns : List ℕ) → fields (k ∷ l ∷ m ∷ []) s ≡ Some ns → Three s k l m (get_or ns 0 0) (get_or ns 1 0) (get_or ns 2 0)
three_back s k l m ns e = go ns (fields_back (k ∷ l ∷ m ∷ []) s ns e)
  where
    go : (ns : List ℕ) → (s ≡ line_of (k ∷ l ∷ m ∷ []) ns) × Small (k ∷ l ∷ m ∷ []) ns → Three s k l m (get_or ns 0 0) (get_or ns 1 0) (get_or ns 2 0)
    go [] w = absurd w.1
    go (a ∷ []) w = absurd w.1.1
    go (a ∷ b ∷ []) w = absurd w.1.1.1
    go (a ∷ b ∷ c ∷ []) w = (w.0 ∙ simp (append_assoc, append-nil), (w.1.0, w.1.1.0, w.1.1.1.0))
    go (a ∷ b ∷ c ∷ d ∷ ns) w = absurd w.1.1.1.1

pub five_back : (s k l m n o ns : List ℕ) → fields (k ∷ l ∷ m ∷ n ∷ o ∷ []) s ≡ Some ns
    → Five s k l m n o (get_or ns 0 0) (get_or ns 1 0) (get_or ns 2 0) (get_or ns 3 0) (get_or ns 4 0)
five_back s k l m n o ns e = go ns (fields_back (k ∷ l ∷ m ∷ n ∷ o ∷ []) s ns e)
  where
    go : (ns : List ℕ) → (s ≡ line_of (k ∷ l ∷ m ∷ n ∷ o ∷ []) ns) × Small (k ∷ l ∷ m ∷ n ∷ o ∷ []) ns
        → Five s k l m n o (get_or ns 0 0) (get_or ns 1 0) (get_or ns 2 0) (get_or ns 3 0) (get_or ns 4 0)
    go [] w = absurd w.1
    go (a ∷ []) w = absurd w.1.1
    go (a ∷ b ∷ []) w = absurd w.1.1.1
    go (a ∷ b ∷ c ∷ []) w = absurd w.1.1.1.1
    go (a ∷ b ∷ c ∷ d ∷ []) w = absurd w.1.1.1.1.1
    go (a ∷ b ∷ c ∷ d ∷ e ∷ []) w = (w.0 ∙ simp (append_assoc, append-nil), (w.1.0, w.1.1.0, w.1.1.1.0, w.1.1.1.1.0, w.1.1.1.1.1.0))
    go (a ∷ b ∷ c ∷ d ∷ e ∷ f ∷ ns) w = absurd w.1.1.1.1.1.1

pub one_read : (k : List ℕ) (a : ℕ) → a ≤ most_read → fields (k ∷ []) (entry k a) ≡ Some (a ∷ [])
one_read k a ha = ap (fields (k ∷ [])) (sym (append-nil (entry k a))) ∙ fields_read (k ∷ []) (a ∷ []) tt (ha, tt)

pub three_read : (k l m : List ℕ) (a b c : ℕ) → a ≤ most_read → b ≤ most_read → c ≤ most_read
    → fields (k ∷ (32 ∷ l) ∷ (32 ∷ m) ∷ []) (entry k a ++ entry (32 ∷ l) b ++ entry (32 ∷ m) c) ≡ Some (a ∷ b ∷ c ∷ [])
three_read k l m a b c ha hb hc =
    let keys = k ∷ (32 ∷ l) ∷ (32 ∷ m) ∷ [] in
    let ns = a ∷ b ∷ c ∷ [] in
    let z : entry k a ++ entry (32 ∷ l) b ++ entry (32 ∷ m) c ≡ line_of keys ns = simp (append_assoc, append-nil) in
    ap (fields keys) z ∙ fields_read keys ns (refl, (refl, tt)) (ha, (hb, (hc, tt)))

pub five_read : (k l m n o : List ℕ) (a b c d e : ℕ) → a ≤ most_read → b ≤ most_read → c ≤ most_read → d ≤ most_read → e ≤ most_read
    → fields (k ∷ (32 ∷ l) ∷ (32 ∷ m) ∷ (32 ∷ n) ∷ (32 ∷ o) ∷ [])
    (entry k a ++ entry (32 ∷ l) b ++ entry (32 ∷ m) c ++ entry (32 ∷ n) d ++ entry (32 ∷ o) e)
    ≡ Some (a ∷ b ∷ c ∷ d ∷ e ∷ [])
five_read k l m n o a b c d e ha hb hc hd he =
    let keys = k ∷ (32 ∷ l) ∷ (32 ∷ m) ∷ (32 ∷ n) ∷ (32 ∷ o) ∷ [] in
    let ns = a ∷ b ∷ c ∷ d ∷ e ∷ [] in
    let z : entry k a ++ entry (32 ∷ l) b ++ entry (32 ∷ m) c ++ entry (32 ∷ n) d ++ entry (32 ∷ o) e ≡ line_of keys ns = simp (append_assoc, append-nil) in
    ap (fields keys) z ∙ fields_read keys ns (refl, (refl, (refl, (refl, tt)))) (ha, (hb, (hc, (hd, (he, tt)))))
