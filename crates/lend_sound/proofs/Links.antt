-- The links from a page to its frame are as many as the pages on its line, and at most as many as there are live spaces (02, M-101).
use mathlib.Core.Path.{◌≡◌, refl, ap, ◌∙◌}
use mathlib.Core.Bool.{Bool}
use mathlib.Core.List.{List}
use mathlib.Core.Option.{none, some}
use Prim.Native.Nat.{ℕ, zero, suc, ◌≤◌}
use native.Mathlib.Omega.{arith}
use lib.Dec.{T}
use lib.ListN.{length}
use Rattle.lend.specs.declared.Link.{Link}
use Rattle.lend.specs.declared.Link.TheVariants.{Nothing, Frame, Page}
use Rattle.lend.specs.Sizes.{Sizes, key}
use Rattle.lend.specs.Lists.{count}
use Rattle.lend.specs.Slots.{Table, held}
use Rattle.lend.specs.Tables.{alive}
use Rattle.lend.specs.Line.{parent, Line, ends, climbs, line_of, links, links_of}
use Rattle.lend.specs.Sound.{SoundPages}
use Rattle.lend_sound.proofs.Lines.{parent_link, parent_held, the_line, line_reaches, line_once, line_some, line_fits, line_at_most}

module _ (z : Sizes) (f : Table) (up : (k q : ℕ) → parent z f k ≡ some q → T (held (f q))) where
  -- a held page with no parent has one link, to its frame
  top_links : (k n : ℕ) → parent z f k ≡ none → T (held (f k)) → links z f (suc n) k ≡ 1
  unfolding links
  top_links k n e h = go (f k).link refl
    where
      go : (l : Link) → (f k).link ≡ l → links z f (suc n) k ≡ 1
      go Nothing q = absurd (rw q at h)
      go (Frame i) q = rw q
      go (Page s p) q = let d : some (key z s p) ≡ none = rw q at e in let x : ◌≡◌ {A = ℕ} 0 1 = cc in absurd (omega arith)

  -- one with a parent has one more than its parent
  parent_links : (k q n : ℕ) → parent z f k ≡ some q → links z f (suc n) k ≡ suc (links z f n q)
  unfolding links
  parent_links k q n e = let r = parent_link z f k q e in rw (r.2, r.3)

  -- so far enough along the line of a held page they are as many as its pages
  line_links : {k : ℕ} {l : List ℕ} → Line z f k l → T (held (f k)) → (n : ℕ) → length l ≤ n → links z f n k ≡ length l
  line_links (ends e) h zero g = absurd (omega arith)
  line_links {k} (ends e) h (suc n) g = top_links k n e h
  line_links (climbs e a) h zero g = absurd (omega arith)
  line_links {k} (climbs {q = q} e a) h (suc n) g = parent_links k q n e ∙ ap suc (line_links a (up k q e) n (omega arith))

module _ (z : Sizes) (live : List Bool) (f : Table) (len : length live ≡ z.spaces) (sound : SoundPages z live f) (k : ℕ) (h : T (held (f k))) where
  -- the links from a held page to its frame are as many as the pages on its line
  pub links_are_pages : links_of z f k ≡ length (line_of z f k)
  links_are_pages = line_links z f (parent_held z live f len sound) (the_line z live f len sound k) h z.spaces (line_fits z live f len sound k)

  -- so there is at least one
  pub links_some : 1 ≤ links_of z f k
  links_some = rw links_are_pages (line_some (the_line z live f len sound k))

  -- and at most as many as there are live spaces
  pub links_at_most : links_of z f k ≤ count z.spaces (alive live)
  links_at_most =
      rw links_are_pages
      (line_at_most z live f len sound k h
      (record {
        pages = line_of z f k;
        is_line = the_line z live f len sound k;
        reaches = line_reaches z live f len sound k h;
        once = line_once z live f len sound k h;
      }))
