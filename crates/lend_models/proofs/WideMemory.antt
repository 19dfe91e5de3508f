-- Memory that goes on with more bytes: below the smaller model's end nothing changes, and a sound board's addresses stay there.
use mathlib.Core.Path.{◌≡◌, sym, ◌∙◌}
use mathlib.Core.List.{List, ◌++◌}
use Prim.Native.Nat.{ℕ, ◌+◌, ◌*◌, ◌%◌, ◌≤◌, ◌<◌}
use native.Mathlib.Omega.{arith}
use lib.Dec.{T, eqb, eqb→eq}
use lib.ListN.{length, get_or, set, length-append, get_or-append}
use lib.Seq.{set-append_left}
use borrow.Author.Tests.{eq-eqb}
use Rattle.lend.specs.Sizes.{Sizes, page_bytes, memory_bytes}
use Rattle.lend.specs.Slots.{held}
use Rattle.lend.specs.Tables.{Tables, table_of}
use Rattle.lend.specs.Line.{frame_of}
use Rattle.lend.specs.Sound.{Sound}
use Rattle.lend.specs.Translate.{page_at, physical}
use Rattle.lend_basics.proofs.Bools.{same_test}
use Rattle.lend_lending.proofs.Frames.{frame_in_law}
use Rattle.lend_models.specs.Embedding.{Fits}
use Rattle.lend_models.specs.Agreement.{more_bytes}

-- ── addresses ────────────────────────────────────────────────────────────
-- the physical address of a held page lies within the memory of the sizes
pub physical_in : (z : Sizes) (b : Tables) → Sound z b → (space address : ℕ) → T (held (table_of b (page_at z space address)))
    → physical z b space address < memory_bytes z
unfolding physical
physical_in z b sound space address h =
    let l = frame_in_law z b.live (table_of b) sound.shape.live_long sound.pages (page_at z space address) h in
    go (frame_of z (table_of b) (page_at z space address)) l
  where
    go : (i : ℕ) → i < z.pages → page_bytes * i + address % page_bytes < page_bytes * z.pages
    go i l = omega arith

-- ── bytes ────────────────────────────────────────────────────────────────
-- a byte below the end is the same
pub byte_same : (memory rest : List ℕ) (n i : ℕ) → length memory ≡ n → i < n → get_or (memory ++ rest) i 0 ≡ get_or memory i 0
byte_same memory rest n i len l = get_or-append memory rest 0 i (omega arith)

-- and a byte that is written below the end is written in the first part
pub store_same : (memory rest : List ℕ) (n i byte : ℕ) → length memory ≡ n → i < n
    → set (memory ++ rest) i byte ≡ set memory i byte ++ rest
store_same memory rest n i byte len l = set-append_left memory rest i byte (omega arith)

-- the memory of the larger model is as long as it should be just when the smaller one's is
pub memory_test : (z w : Sizes) → Fits z w → (memory rest : List ℕ) → length rest ≡ more_bytes z w
    → eqb (length (memory ++ rest)) (memory_bytes w) ≡ eqb (length memory) (memory_bytes z)
memory_test z w fits memory rest more =
    same_test (eqb (length (memory ++ rest)) (memory_bytes w)) (eqb (length memory) (memory_bytes z))
    (λ t. let e : length (memory ++ rest) ≡ memory_bytes w = eqb→eq (length (memory ++ rest)) (memory_bytes w) t in
    is (length memory) (memory_bytes z) (go (length memory) (length rest) more (sym (length-append memory rest) ∙ e)))
    (λ t. let e : length memory ≡ memory_bytes z = eqb→eq (length memory) (memory_bytes z) t in
    is (length (memory ++ rest)) (memory_bytes w) (length-append memory rest ∙ back (length memory) (length rest) more e))
  where
    is : (a b : ℕ) → a ≡ b → T (eqb a b)
    is a b e = rw (eq-eqb a b e) tt

    p : z.pages ≤ w.pages
    p = fits.pages_fit

    go : (m r : ℕ) → r ≡ more_bytes z w → m + r ≡ memory_bytes w → m ≡ memory_bytes z
    go m r a b = omega (arith, p)

    back : (m r : ℕ) → r ≡ more_bytes z w → m ≡ memory_bytes z → m + r ≡ memory_bytes w
    back m r a b = omega (arith, p)
