-- `line_end` meets its contract: the chain gives the bytes from a position on as far as they are no newline.
use Rattle.text.proofs as own
use Rattle.text.specs as spec
use own.Seeking.{line_prefix, rest_is, line_past}
use Prim.Native.Nat.{ℕ, ◌+◌}
use mathlib.Core.Path.{ap, ◌∙◌}
use mathlib.Core.Bool.{not}
use lib.Dec.{eqb}
use borrow.Author.Rules.{rules}
use Rattle.std.proofs.Common.{tests}
use Rattle.std.proofs.lemmas.Iterator.{YieldsList-from_slice}
use Rattle.std.proofs.lemmas.Iterator.Consumers.{count_from_yields_List}
use Rattle.std.proofs.lemmas.Iterator.Search.{YieldsList-from_take_while}
use Rattle.std.proofs.lemmas.List.Folds.{length-prefix_len}
use spec.Lines.{line_length}
use own.line.line_end.Goals as goal

pub returns-in-Some : goal.returns-in-Some
returns-in-Some c =
    ap (λ (n : ℕ). c.args.from + n)
    (count_from_yields_List c.take_while.result _ c.count.ensures.ran
    (YieldsList-from_take_while _ (λ b. not (eqb b 10)) (YieldsList-from_slice c.in-Some.rest.now (cc)) c.take_while.ensures.closure c.take_while.ensures.done
    (λ x b q k. search (rules, tests)))
    ∙ length-prefix_len (λ b. not (eqb b 10)) c.in-Some.rest.now
    ∙ line_prefix c.in-Some.rest.now
    ∙ ap line_length (rest_is c.args.s.now c.args.from c.in-Some.ensures.lookup.0.2))

pub returns-in-None : goal.returns-in-None
returns-in-None c = line_past c.args.s.now c.args.from c.in-None.ensures.lookup.0
