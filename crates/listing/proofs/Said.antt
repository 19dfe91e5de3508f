-- What a text says: `said` finds a content just where the text is that content, spelt, with every number in its field.
use Prim.Native.Nat.{ℕ, suc, ◌+◌, ◌*◌, ◌-◌, ◌≤◌, ◌<◌}
use mathlib.Core.Path.{◌≡◌, refl, sym, subst, ap, ◌∙◌}
use mathlib.Core.Bool.{Bool, true, false, cond}
use mathlib.Core.List.{List, [], ◌∷◌, ◌++◌, append_assoc, append-nil}
use Rattle.std.specs.Prelude.{Option, Some, None, option_map, option_and_then}
use native.Mathlib.Omega.{arith}
use native.Mathlib.Nat.{mul-le-mul_right, suc-mul}
use lib.ListN.{length, get_or}
use Prim.Native.String.{String}
use lib.Dec.{T, leb, ltb→lt, lt→ltb, leb→le, le→leb}
use borrow.Author.Tests.{le-leb, leb-true}
use Rattle.lend_basics.proofs.Bools.{and_l, and_r, and_i, is_true, true_is}
use Rattle.lend.specs.Sizes.{Sizes, slot_count}
use Rattle.lend.specs.Rights.{all_rights}
use Rattle.text.specs.Fields.{fields}
use Rattle.text.specs.Ascii.{bytes, newline}
use Rattle.text.specs.Lines.{lines}
use Rattle.text.specs.Write.{entry, live_line, page_line, held_line}
use Rattle.text_laws.proofs.Numbers.{most_read}
use Rattle.text_laws.proofs.Forms.{one_back, one_read, five_back, five_read}
use Rattle.listing.specs.Live.{all_live}
use Rattle.listing.specs.declared.read.Row.{Row}
use Rattle.listing.specs.Content.{Content, row_line, row_lines, spelt, RowFits, AllFit, no_rows, one_row, Fits, Says, row_key}
use Rattle.listing.specs.Read.{up_to, live_in, held_in, row_of, row_in, row_fits, fitting, Rest, with_row, held_last, rest_of, with_live, content_of, ended, said}
use Rattle.std.specs.Prelude.{reverse}
use Rattle.listing.specs.Live.{live_number}
use Rattle.listing.proofs.Live.{number_room}
use Rattle.listing.proofs.Cut.{unlines, whole_lines, ended_last, plain, plain_more, plain_entry, cut_first}

-- sizes whose numbers have five digits at most, so that they can be read
pub record Readable (z : Sizes) : Type 0 where
  pub some_page : 1 ≤ z.pages
  pub two_spaces : 2 ≤ z.spaces
  pub some_place : 1 ≤ z.places
  pub live_small : all_live z ≤ most_read
  pub spaces_small : z.spaces ≤ most_read
  pub pages_small : z.pages ≤ most_read
  pub slots_small : slot_count z ≤ most_read

-- the number of the live spaces has room for the next space's flag while one is left
pub number_fits : {z : Sizes} → Readable z → (ys : List Bool) → length ys < z.spaces → 2 * live_number (reverse ys) + 1 ≤ most_read
number_fits small ys h = omega (arith, number_room ys h, small.live_small)

-- ── the lines, without their newlines ────────────────────────────────────
live_text : ℕ → List ℕ
live_text n = entry (bytes "live=") n

held_text : ℕ → List ℕ
held_text n = entry (bytes "held=") n

row_text : Row → List ℕ
row_text r =
    entry (bytes "space=") r.space ++ entry (bytes " page=") r.page ++ entry (bytes " parent=") r.parent ++ entry (bytes " at=") r.at
    ++ entry (bytes " rights=") r.rights

live_is : (n : ℕ) → live_line n ≡ live_text n ++ newline ∷ []
unfolding live_line live_text
live_is n = refl

held_is : (n : ℕ) → held_line n ≡ held_text n ++ newline ∷ []
unfolding held_line held_text
held_is n = refl

row_is : (r : Row) → row_line r ≡ row_text r ++ newline ∷ []
unfolding page_line row_text
row_is r = refl

live_plain : (n : ℕ) → T (plain (live_text n))
unfolding live_text plain
live_plain n = plain_entry (bytes "live=") n tt

held_plain : (n : ℕ) → T (plain (held_text n))
unfolding held_text plain
held_plain n = plain_entry (bytes "held=") n tt

row_plain : (r : Row) → T (plain (row_text r))
unfolding row_text plain
row_plain r =
    let A = entry (bytes "space=") r.space in
    let B = entry (bytes " page=") r.page in
    let C = entry (bytes " parent=") r.parent in
    let D = entry (bytes " at=") r.at in
    let E = entry (bytes " rights=") r.rights in
    plain_more (A ++ B ++ C ++ D) E
    (plain_more (A ++ B ++ C) D
    (plain_more (A ++ B) C
    (plain_more A B (plain_entry (bytes "space=") r.space tt) (plain_entry (bytes " page=") r.page tt))
    (plain_entry (bytes " parent=") r.parent tt))
    (plain_entry (bytes " at=") r.at tt))
    (plain_entry (bytes " rights=") r.rights tt)

-- ── a row's fields ───────────────────────────────────────────────────────
pub fits_back : (z : Sizes) (r : Row) → T (row_fits z r) → RowFits z r
unfolding row_fits
fits_back z r h = record {
  space_from = leb→le 1 r.space (search (and_l, and_r) depth 12);
  space_to = ltb→lt r.space z.spaces (search (and_l, and_r) depth 12);
  page_to = ltb→lt r.page z.pages (search (and_l, and_r) depth 12);
  parent_to = ltb→lt r.parent z.spaces (search (and_l, and_r) depth 12);
  at_to = ltb→lt r.at z.pages (search (and_l, and_r) depth 12);
  rights_from = leb→le 1 r.rights (search (and_l, and_r) depth 12);
  rights_to = leb→le r.rights all_rights (search (and_l, and_r) depth 12);
}

-- a row that is let through is one
pub let_through : (z : Sizes) (o : Option Row) (r : Row) → Some r ≡ fitting z o → RowFits z r
let_through z None r e = absurd (cc)
let_through z (Some q) r e = go (row_fits z q) refl e
  where
    go : (t : Bool) → row_fits z q ≡ t → Some r ≡ cond t (Some q) None → RowFits z r
    go false h e = absurd (cc)
    go true h e = let i : q ≡ r = cc in rw (← i) (fits_back z q (true_is _ h))

fits_row : (z : Sizes) (r : Row) → RowFits z r → T (row_fits z r)
unfolding row_fits
fits_row z r h =
    let a = le→leb 1 r.space h.space_from in
    let b = lt→ltb r.space z.spaces h.space_to in
    let c = lt→ltb r.page z.pages h.page_to in
    let d = lt→ltb r.parent z.spaces h.parent_to in
    let e = lt→ltb r.at z.pages h.at_to in
    let f = le→leb 1 r.rights h.rights_from in
    let g = le→leb r.rights all_rights h.rights_to in
    search and_i depth 14

-- the page of a row is one of the table's
pub key_below : (z : Sizes) (r : Row) → RowFits z r → row_key z r < slot_count z
key_below z r h = below z.spaces r.space h.space_to
  where
    below : (n s : ℕ) → s < n → s * z.pages + r.page < n * z.pages
    below n s l = let m = mul-le-mul_right z.pages l in let e : suc s * z.pages ≡ s * z.pages + z.pages = suc-mul s z.pages in omega (arith, h.page_to)

-- ── read, then spelt ─────────────────────────────────────────────────────
-- the lines after the first, put together
abbrev rest_text : Rest → List ℕ
rest_text t = row_lines t.rows ++ held_line t.held

record RestSays (z : Sizes) (s : List ℕ) (t : Rest) : Type 0 where
  pub is : s ≡ rest_text t
  pub rows_fit : AllFit z t.rows
  pub held_to : t.held ≤ slot_count z - z.pages

-- a number that is read is the line's, and is small enough
up_back : (key : String) (most : ℕ) (line : List ℕ) (n : ℕ) → up_to most (fields (bytes key ∷ []) line) ≡ Some n → (line ≡ entry (bytes key) n) × (n ≤ most)
up_back key most line n e = go (fields (bytes key ∷ []) line) refl e
  where
    small : (ns : List ℕ) → fields (bytes key ∷ []) line ≡ Some ns → (t : Bool) → leb (get_or ns 0 0) most ≡ t → cond t (Some (get_or ns 0 0)) None ≡ Some n
        → (line ≡ entry (bytes key) n) × (n ≤ most)
    small ns i false q e = absurd (cc)
    small ns i true q e =
        let w = one_back line (bytes key) ns i in
        let z : get_or ns 0 0 ≡ n = cc in
        rw (← z) (w.0, leb-true (get_or ns 0 0) most q)

    go : (o : Option (List ℕ)) → fields (bytes key ∷ []) line ≡ o → up_to most o ≡ Some n → (line ≡ entry (bytes key) n) × (n ≤ most)
    go None i e = absurd (cc)
    go (Some ns) i e = small ns i (leb (get_or ns 0 0) most) refl e

-- a row that is read is the line's, and its numbers are in their fields
row_back : (z : Sizes) (line : List ℕ) (r : Row) → fitting z (row_in line) ≡ Some r → (line ≡ row_text r) × RowFits z r
unfolding row_in row_text
row_back z line r e = go (fields keys line) refl e
  where
    keys : List (List ℕ)
    keys = bytes "space=" ∷ bytes " page=" ∷ bytes " parent=" ∷ bytes " at=" ∷ bytes " rights=" ∷ []

    fits : (ns : List ℕ) → fields keys line ≡ Some ns → (t : Bool) → row_fits z (row_of ns) ≡ t → cond t (Some (row_of ns)) None ≡ Some r
        → (line ≡ row_text r) × RowFits z r
    fits ns i false q e = absurd (cc)
    fits ns i true q e =
        let w : row_of ns ≡ r = cc in
        rw (← w) ((five_back line (bytes "space=") (bytes " page=") (bytes " parent=") (bytes " at=") (bytes " rights=") ns i).0, fits_back z (row_of ns) (true_is _ q))

    go : (o : Option (List ℕ)) → fields keys line ≡ o → fitting z (option_map row_of o) ≡ Some r → (line ≡ row_text r) × RowFits z r
    go None i e = absurd (cc)
    go (Some ns) i e = fits ns i (row_fits z (row_of ns)) refl e

rest_back : (z : Sizes) (ls : List (List ℕ)) (t : Rest) → rest_of z ls ≡ Some t → RestSays z (unlines ls) t
unfolding rest_of held_last unlines row_lines held_in held_text
rest_back z [] t e = absurd (cc)
rest_back z (line ∷ []) t e = go (held_in (slot_count z - z.pages) line) refl e
  where
    go : (o : Option ℕ) → held_in (slot_count z - z.pages) line ≡ o → option_map (λ n. record { rows = []; held = n }) o ≡ Some t → RestSays z (line ++ newline ∷ []) t
    go None q e = absurd (cc)
    go (Some n) q e =
        let h = up_back "held=" (slot_count z - z.pages) line n q in
        let w : record { rows = []; held = n } ≡ t = cc in
        subst (λ (u : Rest). RestSays z (line ++ newline ∷ []) u) w
        (record { is = ap (λ (l : List ℕ). l ++ newline ∷ []) h.0 ∙ sym (held_is n); rows_fit = no_rows; held_to = h.1 })
rest_back z (line ∷ more ∷ rest) t e = go (fitting z (row_in line)) refl (rest_of z (more ∷ rest)) refl (λ u q. rest_back z (more ∷ rest) u q) e
  where
    go : (o : Option Row) → fitting z (row_in line) ≡ o → (x : Option Rest) → rest_of z (more ∷ rest) ≡ x
        → ((u : Rest) → rest_of z (more ∷ rest) ≡ Some u → RestSays z (unlines (more ∷ rest)) u)
        → option_and_then (λ r. with_row r x) o ≡ Some t → RestSays z (unlines (line ∷ more ∷ rest)) t
    go None q x i f e = absurd (cc)
    go (Some r) q None i f e = absurd (cc)
    go (Some r) q (Some u) i f e =
        let h = row_back z line r q in
        let g = f u i in
        let w : record { rows = r ∷ u.rows; held = u.held } ≡ t = cc in
        subst (λ (v : Rest). RestSays z (unlines (line ∷ more ∷ rest)) v) w
        (record {
          is = ap (λ (l : List ℕ). l ++ newline ∷ unlines (more ∷ rest)) h.0
              ∙ ap (λ (l : List ℕ). row_text r ++ newline ∷ l) g.is
              ∙ sym (append_assoc (row_text r) (newline ∷ []) (rest_text u))
              ∙ ap (λ (l : List ℕ). l ++ rest_text u) (sym (row_is r))
              ∙ sym (append_assoc (row_line r) (row_lines u.rows) (held_line u.held));
          rows_fit = one_row h.1 g.rows_fit;
          held_to = g.held_to;
        })

content_back : (z : Sizes) (ls : List (List ℕ)) (c : Content) → content_of z ls ≡ Some c → Says z (unlines ls) c
unfolding content_of unlines live_in live_text spelt
content_back z [] c e = absurd (cc)
content_back z (line ∷ rest) c e = go (live_in (all_live z) line) refl (rest_of z rest) refl e
  where
    go : (o : Option ℕ) → live_in (all_live z) line ≡ o → (x : Option Rest) → rest_of z rest ≡ x
        → option_and_then (λ n. with_live n x) o ≡ Some c → Says z (line ++ newline ∷ unlines rest) c
    go None q x i e = absurd (cc)
    go (Some n) q None i e = absurd (cc)
    go (Some n) q (Some u) i e =
        let h = up_back "live=" (all_live z) line n q in
        let g = rest_back z rest u i in
        let w : record { live = n; rows = u.rows; held = u.held } ≡ c = cc in
        subst (λ (v : Content). Says z (line ++ newline ∷ unlines rest) v) w
        (record {
          is_spelt = ap (λ (l : List ℕ). l ++ newline ∷ unlines rest) h.0
              ∙ ap (λ (l : List ℕ). live_text n ++ newline ∷ l) g.is
              ∙ sym (append_assoc (live_text n) (newline ∷ []) (rest_text u))
              ∙ ap (λ (l : List ℕ). l ++ rest_text u) (sym (live_is n));
          fits = record { live_to = h.1; rows_fit = g.rows_fit; held_to = g.held_to };
        })

-- what is found is what the text says
pub said_back : (z : Sizes) (s : List ℕ) (c : Content) → said z s ≡ Some c → Says z s c
unfolding said
said_back z s c e = go (ended s) refl e
  where
    go : (b : Bool) → ended s ≡ b → cond b (content_of z (lines s)) None ≡ Some c → Says z s c
    go false q e = absurd (cc)
    go true q e = subst (λ (l : List ℕ). Says z l c) (whole_lines s q) (content_back z (lines s) c e)

-- ── spelt, then read ─────────────────────────────────────────────────────
module _ (z : Sizes) (small : Readable z) where
  up_read : (key : String) (most n : ℕ) → most ≤ most_read → n ≤ most → up_to most (fields (bytes key ∷ []) (entry (bytes key) n)) ≡ Some n
  up_read key most n m h = rw (one_read (bytes key) n (omega arith), le-leb n most h)

  held_read : (n : ℕ) → n ≤ slot_count z - z.pages → held_last (held_in (slot_count z - z.pages) (held_text n)) ≡ Some (record { rows = []; held = n })
  unfolding held_last held_in held_text
  held_read n h = rw (up_read "held=" (slot_count z - z.pages) n (omega (arith, small.slots_small)) h)

  row_read : (r : Row) → RowFits z r → fitting z (row_in (row_text r)) ≡ Some r
  unfolding row_in row_text
  row_read r h =
      rw (
        five_read (bytes "space=") (bytes "page=") (bytes "parent=") (bytes "at=") (bytes "rights=") r.space r.page r.parent r.at r.rights
            (omega (arith, h.space_to, small.spaces_small))
            (omega (arith, h.page_to, small.pages_small))
            (omega (arith, h.parent_to, small.spaces_small))
            (omega (arith, h.at_to, small.pages_small))
            (omega (arith, h.rights_to)),
        is_true (row_fits z r) (fits_row z r h),
      )

  -- a row before lines that are read
  rest_more : (r : Row) (ls : List (List ℕ)) (t : Rest) → RowFits z r → rest_of z ls ≡ Some t → rest_of z (row_text r ∷ ls) ≡ Some (record { rows = r ∷ t.rows; held = t.held })
  unfolding rest_of
  rest_more r [] t h e = absurd (cc)
  rest_more r (l ∷ ls) t h e = rw (row_read r h, e)

  rest_read : (rows : List Row) (held : ℕ) → AllFit z rows → held ≤ slot_count z - z.pages
      → rest_of z (lines (row_lines rows ++ held_line held)) ≡ Some (record { rows = rows; held = held })
  unfolding row_lines rest_of lines
  rest_read rows held no_rows h =
      ap (rest_of z) (ap lines (held_is held ∙ sym (append-nil (held_text held ++ newline ∷ []))) ∙ cut_first (held_text held) [] (held_plain held)) ∙ held_read held h
  rest_read rows held (one_row {r} {rest} f g) h =
      ap (rest_of z)
      (ap lines (append_assoc (row_line r) (row_lines rest) (held_line held) ∙ ap (λ (l : List ℕ). l ++ (row_lines rest ++ held_line held)) (row_is r))
      ∙ cut_first (row_text r) (row_lines rest ++ held_line held) (row_plain r))
      ∙ rest_more r (lines (row_lines rest ++ held_line held)) (record { rows = rest; held = held }) f (rest_read rest held g h)

  content_read : (c : Content) → Fits z c → content_of z (lines (spelt c)) ≡ Some c
  unfolding spelt content_of live_in live_text
  content_read c f =
      let tail = row_lines c.rows ++ held_line c.held in
      ap (content_of z) (ap (λ (l : List ℕ). lines (l ++ tail)) (live_is c.live) ∙ cut_first (live_text c.live) tail (live_plain c.live))
      ∙ rw (
        up_read "live=" (all_live z) c.live small.live_small f.live_to,
        rest_read c.rows c.held f.rows_fit f.held_to,
      )

  spelt_ended : (c : Content) → ended (spelt c) ≡ true
  unfolding spelt
  spelt_ended c =
      let front = live_line c.live ++ (row_lines c.rows ++ held_text c.held) in
      let e : spelt c ≡ front ++ newline ∷ [] =
      ap (λ (l : List ℕ). live_line c.live ++ (row_lines c.rows ++ l)) (held_is c.held)
      ∙ ap (λ (l : List ℕ). live_line c.live ++ l) (sym (append_assoc (row_lines c.rows) (held_text c.held) (newline ∷ [])))
      ∙ sym (append_assoc (live_line c.live) (row_lines c.rows ++ held_text c.held) (newline ∷ [])) in
      ap ended e ∙ ended_last front

  -- and what a text says is found
  pub said_of : (s : List ℕ) (c : Content) → Says z s c → said z s ≡ Some c
  unfolding said
  said_of s c h = ap (said z) h.is_spelt ∙ rw (spelt_ended c) (content_read c h.fits)
