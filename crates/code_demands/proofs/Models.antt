-- The two shapes that the code has are the two models' (crates/board/src/shape.rt): `ENTRY` is a `Shape<8, 32, 256, 8>`, and `PREMIUM` a
-- `Shape<16, 64, 1024, 16>`. So what is said here of the boards of all shapes is said of the boards of both models.
use Prim.Native.Nat.{ℕ}
use mathlib.Core.Path.{◌≡◌, refl}
use lib.Dec.{lit<}
use Rattle.lend.specs.Sizes.{Sizes, entry, premium}
use Rattle.board.specs.declared.shape.Shape.{Shape}
use Rattle.board.specs.Model.{sizes, IsModel}

-- the sizes of which the contract of a function speaks that is given a shape
abbrev pub sizes_of : {spaces pages slots places : ℕ} → Shape spaces pages slots places → Sizes
sizes_of {spaces} {pages} {slots} {places} shape = sizes spaces pages places

pub entry_sizes : (shape : Shape 8 32 256 8) → sizes_of shape ≡ entry
entry_sizes shape = refl

pub premium_sizes : (shape : Shape 16 64 1024 16) → sizes_of shape ≡ premium
premium_sizes shape = refl

-- and there are such shapes: these numbers are a model's
pub entry_is : IsModel 8 32 256 8
entry_is = record {
  slots_are = refl;
  two_spaces = lit< tt;
  some_pages = lit< tt;
  some_places = lit< tt;
  few_spaces = lit< tt;
  few_pages = lit< tt;
  few_slots = lit< tt;
  few_places = lit< tt;
}

pub premium_is : IsModel 16 64 1024 16
premium_is = record {
  slots_are = refl;
  two_spaces = lit< tt;
  some_pages = lit< tt;
  some_places = lit< tt;
  few_spaces = lit< tt;
  few_pages = lit< tt;
  few_slots = lit< tt;
  few_places = lit< tt;
}
