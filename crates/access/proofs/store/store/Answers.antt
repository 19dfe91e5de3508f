-- `store` meets its contract: what no refusal has shown puts the byte into memory.
use native.Mathlib.Omega.{arith}
use Rattle.std.proofs.lemmas.Result.{err_from_is_err_and}
use Rattle.access.proofs.Accessing.{store_not, store_named, store_memory, store_made}
use Rattle.access.proofs.store.store.Goals as goal

pub returns-in_err-check_access : goal.returns-in_err-check_access
returns-in_err-check_access g c =
    let p = err_from_is_err_and c.from_residual.result c.from_residual.ensures.1 in
    rw (p.1, p.2) (store_not _ _ _ _ _ _ _ c.in_err-check_access.ensures)

pub overflow_cast-space : goal.overflow_cast-space
overflow_cast-space g c = omega (arith, (store_named _ _ c.args.memory.now _ _ c.args.byte c.in_ok-check_access.ensures).space_in, c.args.b.now.shape.is_model.few_spaces)

pub overflow_cast-page-2 : goal.overflow_cast-page-2
overflow_cast-page-2 g c = omega (arith, (store_named _ _ c.args.memory.now _ _ c.args.byte c.in_ok-check_access.ensures).page_in, c.args.b.now.shape.is_model.few_pages)

pub bounds-memory-byte_at : goal.bounds-memory-byte_at
bounds-memory-byte_at g c =
    let named = store_named _ _ c.args.memory.now _ _ c.args.byte c.in_ok-check_access.ensures in
    omega (arith, c.byte_at.ensures, named.frame_in_law c.look-seen.ensures, store_memory _ _ c.args.memory.now _ _ c.args.byte c.in_ok-check_access.ensures)

pub returns : goal.returns
returns g c = store_made _ _ _ _ _ _ c.in_ok-check_access.ensures c.look-seen.result _ c.look-seen.ensures _ c.byte_at.ensures
