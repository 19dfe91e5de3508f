-- The one-page calls that a call over a range is made of.
use Rattle.std.specs.Prelude.{List}
use Rattle.lend.specs.Sizes.{Sizes}
use Rattle.lend.specs.Lists.{tabulate}
use Rattle.lend.specs.Calls.{Call}
use Rattle.lend.specs.Ranges.{RangeCall, range_pages, page_call}

-- from the lowest page up
unfoldable pub page_calls : Sizes → RangeCall → List Call
page_calls z c = tabulate (range_pages z c) (page_call z c)
