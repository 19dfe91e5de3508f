-- A board that may be none, as tables: others stand in its place.
use Rattle.std.specs.Prelude.{ℕ}
use Rattle.std.specs.declared.option.Option.{Option}
use Rattle.std.specs.declared.option.Option.TheVariants.{Some, None}
use Rattle.lend.specs.Tables.{Tables}
use Rattle.board.specs.declared.Board.{Board}
use Rattle.board.specs.Board.{tables}

abbrev pub tables_or : {spaces pages slots places : ℕ} → Tables → Option (Board spaces pages slots places) → Tables
tables_or t None = t
tables_or t (Some b) = tables b
