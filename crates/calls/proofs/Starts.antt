-- The live spaces of the start board, as the code writes them: two into an array of none.
use mathlib.Core.Path.{◌≡◌, sym, ◌∙◌}
use mathlib.Core.Bool.{Bool, true, false}
use mathlib.Core.List.{List}
use Prim.Native.Nat.{ℕ, zero, suc, ◌≤◌, ◌<◌}
use native.Mathlib.Omega.{arith}
use lib.Dec.{leb}
use lib.ListN.{length, get_or, set, replicate, length-set, length-replicate, get_or-replicate}
use lib.Seq.{ext_get_or, get_or-set_same, get_or-set_other}
use Rattle.std.proofs.lemmas.Bool.{le-leb, lt-leb}
use Rattle.lend.specs.Lists.{tabulate}
use Rattle.lend_basics.proofs.Lists.{length_tabulate, tabulate_at}

pub two_live : (n : ℕ) → 2 ≤ n → set (set (replicate n false) 0 true) 1 true ≡ tabulate n (λ s. leb s 1)
two_live n h = ext_get_or false both (tabulate n (λ s. leb s 1)) (both_long ∙ sym (length_tabulate (λ s. leb s 1) n))
    (λ k l. at k (omega (arith, both_long)) ∙ sym (tabulate_at (λ s. leb s 1) n k false (omega (arith, both_long))))
  where
    one : List Bool
    one = set (replicate n false) 0 true

    both : List Bool
    both = set one 1 true

    one_long : length one ≡ n
    one_long = length-set (replicate n false) 0 true ∙ length-replicate n false

    both_long : length both ≡ n
    both_long = length-set one 1 true ∙ one_long

    at : (k : ℕ) → k < n → get_or both k false ≡ leb k 1
    at zero l =
        get_or-set_other one 1 0 true false (λ e. omega arith)
        ∙ (get_or-set_same (replicate n false) 0 true false (omega (arith, length-replicate n false)) ∙ sym (le-leb 0 1 (omega arith)))
    at (suc zero) l = get_or-set_same one 1 true false (omega (arith, one_long)) ∙ sym (le-leb 1 1 (omega arith))
    at (suc (suc k)) l =
        get_or-set_other one 1 (suc (suc k)) true false (λ e. omega arith)
        ∙ (get_or-set_other (replicate n false) 0 (suc (suc k)) true false (λ e. omega arith)
        ∙ (get_or-replicate n (suc (suc k)) false false l ∙ sym (lt-leb (suc (suc k)) 1 (omega arith))))
