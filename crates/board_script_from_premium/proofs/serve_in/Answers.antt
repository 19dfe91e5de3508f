-- Made by tools/models.py from crates/board_script_from/proofs/serve_in/Answers.antt: change that file.
-- `serve_in` meets its contract: the array has the length of its type, which is at least the bound of every script.
use Rattle.std.proofs.Common.{arith}
use Rattle.script.specs.Bound.{output_bound}
use Rattle.board_script_from_premium.proofs.serve_in.Goals as goal

pub serve-requires : goal.serve-requires
unfolding output_bound
serve-requires c = omega (arith, c.fits-output)
