-- Made by tools/models.py from crates/board_script/proofs/answer/Answers.antt: change that file.
-- `answer` meets its contract: a run tells a length within the buffer, and its first bytes are the output.
use Rattle.io.proofs.Counting.{prefix_len_of_le}
use Rattle.script.proofs.Bound.{long_enough, script_length}
use Rattle.script.proofs.Runs.{told_fits, told_output}
use Rattle.lend.specs.Sizes.{premium as sizes}
use Rattle.board_script_premium.proofs.answer.Goals as goal

pub returns-clause-prefix_len : goal.returns-clause-prefix_len
returns-clause-prefix_len c = prefix_len_of_le _ _ (told_fits c.run.ensures (script_length sizes _)).0

pub returns-clause-output_after : goal.returns-clause-output_after
returns-clause-output_after c = told_output c.run.ensures (long_enough sizes c.args.input.now c.requires)
