-- Board K and the twelve examples on it (01, 'Examples on one board'), one table for both models.
use Rattle.std.specs.Prelude.{ℕ, ◌≡◌, Bool, true, false, List, [], ◌∷◌, set, T, eqb, leb}
use Rattle.lend.specs.declared.Slot.{Slot}
use Rattle.lend.specs.declared.Count.{Count}
use Rattle.lend.specs.Sizes.{Sizes, entry, premium, key}
use Rattle.lend.specs.Lists.{tabulate}
use Rattle.lend.specs.Slots.{empty_slot, lent_slot}
use Rattle.lend.specs.Tables.{Tables, alone}
use Rattle.lend.specs.Sound.{Sound}
use Rattle.lend.specs.Start.{start_board}
use Rattle.lend.specs.Calls.{Call, Delete, Unmap, Flush, Map, Grant, Translate, Reply, plain_reply, step, steps}

-- page p of space s keeps this slot
abbrev pub put : Sizes → ℕ → ℕ → Slot → List Slot → List Slot
put z s p x b = set b (key z s p) x

unfoldable pub slots_k : Sizes → List Slot
slots_k z =
    put z 1 0 (lent_slot 0 5 7)
    (put z 2 3 (lent_slot 1 0 6) (put z 3 1 (lent_slot 2 3 2) (put z 2 4 (lent_slot 0 6 7) (start_board z).slots)))

-- so many pages end at a frame; so many of them can be read, written and executed
abbrev pub pages : ℕ → ℕ → ℕ → ℕ → Count
pages n r w x = record { held = n; read = r; write = w; execute = x }

-- what ends at frames 5 and 6; at no other frame does a page end
abbrev pub ending : Sizes → Count → Count → List Count
ending z five six = set (set (start_board z).summary 5 five) 6 six

-- spaces 0 to 4 live, the cache as at the start; (1,0), (2,3) and (3,1) end at frame 5, and (2,4) at frame 6
unfoldable pub K : Sizes → Tables
K z = record {
  slots = slots_k z;
  live = tabulate z.spaces (λ s. leb s 4);
  places = (start_board z).places;
  next = 0;
  summary = ending z (pages 3 2 3 1) (pages 1 1 1 1);
}

-- K with other slots, and other pages that end at frame 5
abbrev pub with_k : Sizes → List Slot → Count → Tables
with_k z b five = record { slots = b; live = (K z).live; places = (K z).places; next = 0; summary = ending z five (pages 1 1 1 1) }

-- K with page p of space 0 in the cache
abbrev pub one_cached : ℕ → Sizes → Tables
one_cached p z = record {
  slots = slots_k z;
  live = (K z).live;
  places = set (K z).places 0 (record { space = 0; page = p; frame = p; rights = 7 });
  next = 0;
  summary = (K z).summary;
}

-- what a translation of an address of space 0 replies, whose pages hold their frames: over one link
abbrev pub translated : ℕ → Bool → Reply
translated a h = record { number = 0; emptied = 0; address = a; hit = h; links = 1; byte = 0 }

-- Which model a row is about: either one, or that of so many pages alone.
abbrev pub either : Sizes → Bool
either z = true

abbrev pub only : Sizes → Sizes → Bool
only model z = eqb z.pages model.pages

-- A row: the models it is about, the calls made first, the call, what it replies and the whole board after it.
pub record Row : Type 0 where
  pub concerns : Sizes → Bool
  pub first : List Call
  pub call : Call
  pub reply : Reply
  pub board : Sizes → Tables

abbrev pub row : Call → ℕ → ℕ → (Sizes → Tables) → Row
row c n e b = record { concerns = either; first = []; call = c; reply = plain_reply n e; board = b }

-- translate of an address of space 0 for reading: the same address comes back, the first time no hit and then a hit
abbrev pub looks : (Sizes → Bool) → ℕ → ℕ → Row
looks model a p = record { concerns = model; first = []; call = Translate 0 a 4; reply = translated a false; board = one_cached p }

abbrev pub looks_again : (Sizes → Bool) → ℕ → ℕ → Row
looks_again model a p =
    record { concerns = model; first = Translate 0 a 4 ∷ []; call = Translate 0 a 4; reply = translated a true; board = one_cached p }

-- no byte of a model has the address
abbrev pub past : (Sizes → Bool) → ℕ → Row
past model a = record { concerns = model; first = []; call = Translate 0 a 4; reply = plain_reply 5 0; board = K }

-- the row holds on the model
abbrev pub Right : Sizes → Row → Type 0
Right z r = step z (steps z (alone (K z)) r.first) r.call ≡ record { reply = r.reply; state = alone (r.board z) }

-- every row of the list that is about the model does
abbrev pub AllRight : Sizes → List Row → Type 0
AllRight z [] = Unit {0}
AllRight z (r ∷ rs) = (T (r.concerns z) → Right z r) × AllRight z rs

-- ── the rows, by the document's numbers ──────────────────────────────────
-- (2,3) keeps 4 and (3,1) is empty
abbrev pub one_cut : Sizes → Tables
one_cut z = with_k z (put z 2 3 (lent_slot 1 0 4) (put z 3 1 empty_slot (slots_k z))) (pages 2 2 1 1)

-- (2,3) and (3,1) are empty
abbrev pub both_empty : Sizes → Tables
both_empty z = with_k z (put z 2 3 empty_slot (put z 3 1 empty_slot (slots_k z))) (pages 1 1 1 1)

-- (1,0) keeps 6
abbrev pub less_execute : Sizes → Tables
less_execute z = with_k z (put z 1 0 (lent_slot 0 5 6) (slots_k z)) (pages 3 2 3 0)

-- (4,0) has 2 from (1,0), (2,3) and (3,1) are empty
abbrev pub handed_on : Sizes → Tables
handed_on z = with_k z (put z 4 0 (lent_slot 1 0 2) (put z 2 3 empty_slot (put z 3 1 empty_slot (slots_k z)))) (pages 2 1 2 1)

-- space 2 is not live, its pages and (3,1) are empty
abbrev pub deleted : Sizes → Tables
deleted z = record {
  slots = put z 2 3 empty_slot (put z 2 4 empty_slot (put z 3 1 empty_slot (slots_k z)));
  live = set (K z).live 2 false;
  places = (K z).places;
  next = 0;
  summary = ending z (pages 1 1 1 1) (pages 0 0 0 0);
}

unfoldable pub table : List Row
table =
    -- 1
    row (Unmap 1 0 2) 0 1 one_cut
    -- 2, both ways
    ∷ record { concerns = either; first = Unmap 1 0 2 ∷ []; call = Unmap 1 0 4; reply = plain_reply 0 1; board = both_empty }
    ∷ row (Unmap 1 0 6) 0 2 both_empty
    -- 3
    ∷ row (Unmap 0 5 1) 0 0 less_execute
    -- 4
    ∷ row (Flush 0 5 1) 9 0 K
    -- 5
    ∷ row (Map 2 3 4 0 7) 12 0 K
    ∷ row (Map 2 3 4 0 0) 6 0 K
    ∷ row (Map 2 3 4 0 8) 6 0 K
    -- 6
    ∷ row (Map 2 3 1 7 4) 13 0 K
    ∷ row (Map 1 0 1 4 4) 13 0 K
    -- 7
    ∷ row (Map 2 4 1 0 4) 14 0 K
    -- 8
    ∷ row (Map 1 0 2 8 4) 15 0 K
    -- 9
    ∷ row (Map 1 0 2 3 4) 0 1 one_cut
    -- 10, as M-103 has it
    ∷ row (Grant 2 3 4 0 2) 0 2 handed_on
    -- 11
    ∷ row (Delete 2) 0 3 deleted
    -- 12, and the premium model's own last address
    ∷ looks either 32767 31
    ∷ looks_again either 32767 31
    ∷ past (only entry) 32768
    ∷ looks (only premium) 65535 63
    ∷ looks_again (only premium) 65535 63
    ∷ past (only premium) 65536
    ∷ []

-- what the document says of board K, on a model
pub record Examples (z : Sizes) : Type 0 where
  pub sound : Sound z (K z)
  pub rows : AllRight z table
