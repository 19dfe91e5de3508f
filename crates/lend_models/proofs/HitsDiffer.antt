-- hit may differ between the models either way once an entry was replaced: two witnesses, by computing.
use mathlib.Core.Path.{◌≡◌, refl}
use mathlib.Core.Bool.{true, false}
use lib.Dec.{T}
use Rattle.lend.specs.Sizes.{entry, premium}
use Rattle.lend.specs.Rights.{within}
use Rattle.lend.specs.Lists.{every, tabulate_from}
use Rattle.lend.specs.Line.{line, frame, links}
use Rattle.lend.specs.Cache.{place_for, cached, empty_in, goes_to, next_after}
use Rattle.lend.specs.SoundTest.{slot_test, pages_test, cache_test, sound_test, summary_test}
use Rattle.lend.specs.Summary.{summary_to}
use Rattle.lend.specs.Start.{start_board}
use Rattle.lend.specs.Translate.{physical, links_to, hit, looked}
use Rattle.lend.specs.Calls.{cases, number, board_after, memory_after, report, step, steps}
use Rattle.lend_models.specs.Agreement.{all_in_limits}
use Rattle.lend_models.specs.Witness.{nine_looks, eighteen_looks, reply_after, looks_up}

-- after looks at nine pages, page 0 misses on Entry and hits on Premium
pub entry_misses : (reply_after entry nine_looks ≡ looks_up false) × (reply_after premium nine_looks ≡ looks_up true)
unfolding start_board sound_test summary_test summary_to pages_test cache_test slot_test every line frame links within tabulate_from place_for cached empty_in goes_to next_after physical links_to hit looked cases number board_after memory_after report step steps
entry_misses = (refl, refl)

-- after looks at sixteen pages, at page 0 again and at a seventeenth, page 0 hits on Entry and misses on Premium
pub premium_misses : (reply_after entry eighteen_looks ≡ looks_up true) × (reply_after premium eighteen_looks ≡ looks_up false)
unfolding start_board sound_test summary_test summary_to pages_test cache_test slot_test every line frame links within tabulate_from place_for cached empty_in goes_to next_after physical links_to hit looked cases number board_after memory_after report step steps
premium_misses = (refl, refl)

-- both lists stay within Entry's limits, so both models can be asked
pub looks_in_limits : T (all_in_limits entry nine_looks) × T (all_in_limits entry eighteen_looks)
unfolding tabulate_from
looks_in_limits = (tt, tt)
