-- `answer` meets its contract: a run tells a length within the buffer, and its first bytes are the output.
use Rattle.io.proofs.Counting.{prefix_len_of_le}
use Rattle.script.proofs.Bound.{from_length, long_enough}
use Rattle.script.proofs.Runs.{told_fits, told_output}
use Rattle.lend.specs.Sizes.{entry as sizes}
use Rattle.board_script_from.proofs.answer.Goals as goal

pub returns-clause-prefix_len : goal.returns-clause-prefix_len
returns-clause-prefix_len c = prefix_len_of_le _ _ (told_fits c.run_from.ensures (from_length sizes _ _)).0

pub returns-clause-output_after : goal.returns-clause-output_after
returns-clause-output_after c = told_output c.run_from.ensures (long_enough sizes c.args.input.now c.requires)
