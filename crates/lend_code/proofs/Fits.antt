-- A page with numbers in range is a page of the table.
use mathlib.Core.Path.{◌≡◌}
use Prim.Native.Nat.{ℕ, suc, ◌+◌, ◌*◌, ◌≤◌, ◌<◌}
use native.Mathlib.Nat.{mul-le-mul_right}
use native.Mathlib.Omega.{arith}
use borrow.Author.Tests.{lt-ltb}
use Rattle.lend.specs.Sizes.{Sizes, slot_count, key}
use Rattle.lend_code.specs.Inner.{inside_of}

-- it is in the table
pub key_in : (z : Sizes) (s p : ℕ) → s < z.spaces → p < z.pages → key z s p < slot_count z
key_in z s p hs hp =
    let m : suc s * z.pages ≤ z.spaces * z.pages = mul-le-mul_right z.pages hs in
    let e : suc s * z.pages ≡ z.pages + s * z.pages = suc_mul_l s z.pages in
    omega arith
  where
    suc_mul_l : (a b : ℕ) → suc a * b ≡ b + a * b
    suc_mul_l a b = omega arith

-- so it is the page itself that is read there
pub inside_key : (z : Sizes) (s p : ℕ) → s < z.spaces → p < z.pages → inside_of z (key z s p) ≡ key z s p
inside_key z s p hs hp = rw (lt-ltb (key z s p) (slot_count z) (key_in z s p hs hp))
