-- The cache's methods, by the rules on its places: a cache goes in and comes back.
use Rattle.std.specs.Prelude.{ℕ, List}
use Rattle.lend.specs.declared.Place.{Place}
use Rattle.lend.specs.Sizes.{Sizes}
use Rattle.lend.specs.Cache.{inserted, next_after, dropped, dropped_where}
use Rattle.lend_code.specs.Inner.{lost_in}
use Rattle.board.specs.declared.Cache.{Cache}

abbrev pub insert_in : {places : ℕ} → Cache places → Place → Cache places
insert_in c q = record { places = inserted c.places c.next q; next = next_after c.places c.next }

abbrev pub drop_entry : {places : ℕ} → Cache places → ℕ → Cache places
drop_entry c place = record { places = dropped c.places place; next = c.next }

abbrev pub drop_lost : {places : ℕ} → Sizes → Cache places → List ℕ → List ℕ → Cache places
drop_lost z c before after = record { places = dropped_where z (lost_in before after) c.places; next = c.next }
