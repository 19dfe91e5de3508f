-- What the inner functions of the calls over ranges compute. Only their contracts speak of these; no caller has to read them.
use Rattle.std.specs.Prelude.{ℕ, ◌+◌, not, ◌&&◌, cond, List, ◌∷◌, eqb, ltb}
use Rattle.lend.specs.Sizes.{Sizes}
use Rattle.lend.specs.Tables.{Tables, State, alone}
use Rattle.lend.specs.SoundTest.{sound_test}
use Rattle.lend.specs.Numbers.{◌when◌, first_number}
use Rattle.lend.specs.Calls.{Outcome}
use Rattle.lend.specs.Ranges.{Range, one_cases, pair_cases, RangeOutcome}
use Rattle.lend_code.specs.Inner.{rights_of, lost_all}

-- ── the first checks, where the ranges are at hand ───────────────────────
-- of an unmap or a flush
unfoldable pub one_number : Sizes → Tables → ℕ → Range → ℕ → ℕ
one_number z b space range rights = first_number ((1 when not (sound_test z b)) ∷ one_cases z (alone b) space range rights)

-- of a map or a grant
unfoldable pub pair_number : Sizes → Tables → ℕ → Range → ℕ → Range → ℕ → ℕ
pair_number z b from given to taken rights = first_number ((1 when not (sound_test z b)) ∷ pair_cases z (alone b) from given to taken rights)

-- ── the pages, one after the other ───────────────────────────────────────
-- before the first page
abbrev pub none_made : Sizes → State → RangeOutcome
none_made z st = record { number = 0; done = 0; offset = z.pages; emptied = 0; state = st }

-- one page more, up to all of them
unfoldable pub one_more : Sizes → ℕ → ℕ
one_more z n = cond (ltb n z.pages) (n + 1) n

-- after the page at offset i: what was emptied is counted at the end
unfoldable pub made_one : Sizes → RangeOutcome → Outcome → ℕ → RangeOutcome
made_one z run page i = record {
  number = cond (eqb run.number 0) page.reply.number run.number;
  done = cond (eqb page.reply.number 0) (one_more z run.done) run.done;
  offset = cond (eqb run.number 0 && not (eqb page.reply.number 0)) i run.offset;
  emptied = 0;
  state = page.state;
}

-- after the last page: before are the rights before the whole call
unfoldable pub all_made : Sizes → List ℕ → RangeOutcome → RangeOutcome
all_made z before run = record {
  number = run.number;
  done = run.done;
  offset = run.offset;
  emptied = lost_all z before (rights_of z run.state.board.slots);
  state = run.state;
}
