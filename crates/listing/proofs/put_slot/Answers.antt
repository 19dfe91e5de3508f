-- `put_slot` meets its contract, by the cases of the link.
use Rattle.listing.proofs as own
use Rattle.listing.specs as spec
use spec.Listing.{slot_line}
use Rattle.text.proofs.Writing.{writes_none}
use own.put_slot.Goals as goal

pub returns-in-Nothing : goal.returns-in-Nothing
unfolding slot_line
returns-in-Nothing c = rw c.in-Nothing.is (writes_none _)

pub returns-in-Frame : goal.returns-in-Frame
unfolding slot_line
returns-in-Frame c = rw (c.in-Frame.is, ← c.from-rights.ensures) c.page.ensures

pub returns-in-Page : goal.returns-in-Page
unfolding slot_line
returns-in-Page c = rw (c.in-Page.is, ← c.from-rights.ensures, ← c.from.ensures, ← c.from-in-Page.ensures) c.page-in-Page.ensures
