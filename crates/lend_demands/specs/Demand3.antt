-- Demand 3 of document 00: where a list of one-page unmap and flush calls ends, by the start board and the calls alone.
use Rattle.std.specs.Prelude.{ℕ, ◌≤◌, ◌≡◌, Bool, true, false, not, ◌&&◌, ◌||◌, cond, List, [], ◌∷◌, eqb}
use Rattle.std.specs.Int.Bits.{bit_or}
use Rattle.lend.specs.Sizes.{Sizes, key}
use Rattle.lend.specs.Rights.{less}
use Rattle.lend.specs.Slots.{Table, empty_slot, slot_at, cut, each_slot}
use Rattle.lend.specs.Tables.{Tables, alone, table_of}
use Rattle.lend.specs.Line.{below}
use Rattle.lend.specs.Summary.{summary_of}
use Rattle.lend.specs.Cache.{empty_place, page_named, place_at, dropped_where}
use Rattle.lend.specs.Calls.{Call, Create, Delete, Unmap, Flush, Map, Grant, Translate, Load, Store, number}

-- the call is an unmap or a flush
abbrev pub withdraws : Call → Bool
withdraws (Create space) = false
withdraws (Delete space) = false
withdraws (Unmap space page rights) = true
withdraws (Flush space page rights) = true
withdraws (Map from page to at rights) = false
withdraws (Grant from page to at rights) = false
withdraws (Translate space address rights) = false
withdraws (Load space address) = false
withdraws (Store space address byte) = false

-- every call of the list is one
abbrev pub all_withdraw : List Call → Bool
all_withdraw [] = true
all_withdraw (c ∷ cs) = withdraws c && all_withdraw cs

-- the rights that a call withdraws from page k: an unmap from the pages below its page, a flush from that page too
abbrev pub asks : Sizes → Table → Call → ℕ → ℕ
asks z f (Create space) k = 0
asks z f (Delete space) k = 0
asks z f (Unmap space page rights) k = cond (below z f k (key z space page)) rights 0
asks z f (Flush space page rights) k = cond (below z f k (key z space page) || eqb k (key z space page)) rights 0
asks z f (Map from page to at rights) k = 0
asks z f (Grant from page to at rights) k = 0
asks z f (Translate space address rights) k = 0
asks z f (Load space address) k = 0
asks z f (Store space address byte) k = 0

-- the call is accepted on the board
abbrev pub accepts : Sizes → Tables → Call → Bool
accepts z b c = eqb (number z (alone b) c) 0

-- what it withdraws, if it is accepted
unfoldable pub takes : Sizes → Tables → Call → ℕ → ℕ
takes z b c k = cond (accepts z b c) (asks z (table_of b) c k) 0

-- every right that a call of the list withdraws from page k, each judged by the same board
unfoldable pub taken : Sizes → Tables → List Call → ℕ → ℕ
taken z b [] k = 0
taken z b (c ∷ cs) k = bit_or (takes z b c k) (taken z b cs k)

-- page k loses a right when it loses those of d
abbrev pub loses_some : Table → (ℕ → ℕ) → ℕ → Bool
loses_some f d k = not (eqb (less (f k).rights (d k)) (f k).rights)

-- the board when each page k has lost the rights of d k: it is empty where no right is left, else its link is unchanged; a cached
-- translation stays in its place exactly when its page lost nothing; the summary counts what is left; nothing else moves
unfoldable pub less_board : Sizes → Tables → (ℕ → ℕ) → Tables
less_board z b d = record {
  slots = each_slot (λ k s. cut (d k) s) b.slots;
  live = b.live;
  places = dropped_where z (loses_some (table_of b) d) b.places;
  next = b.next;
  summary = summary_of z (slot_at (each_slot (λ k s. cut (d k) s) b.slots));
}

-- where the list ends
abbrev pub end_board : Sizes → Tables → List Call → Tables
end_board z b cs = less_board z b (taken z b cs)

-- the same, sentence by sentence: the board e is where the calls cs lead from the board b
pub record Ends (z : Sizes) (b e : Tables) (cs : List Call) : Type 0 where
  -- each page has the rights it had at the start, less every right that an accepted call withdrew from it
  pub rights_less : (k : ℕ) → (table_of e k).rights ≡ less (table_of b k).rights (taken z b cs k)
  -- it is empty when no right is left
  pub empty_without : (k : ℕ) → (table_of e k).rights ≡ 0 → table_of e k ≡ empty_slot
  -- and else its link is unchanged
  pub link_stays : (k : ℕ) → 1 ≤ (table_of e k).rights → (table_of e k).link ≡ (table_of b k).link
  -- a cached translation stays in its place when its page lost nothing
  pub entry_stays : (i : ℕ) → (table_of e (page_named z (place_at b.places i))).rights ≡ (table_of b (page_named z (place_at b.places i))).rights
      → place_at e.places i ≡ place_at b.places i
  -- and goes when it lost something
  pub entry_goes : (i : ℕ) → ((table_of e (page_named z (place_at b.places i))).rights ≡ (table_of b (page_named z (place_at b.places i))).rights → ⊥)
      → place_at e.places i ≡ empty_place
  -- the summary counts the end pages
  pub counted : e.summary ≡ summary_of z (table_of e)
  -- nothing else moves
  pub live_stays : e.live ≡ b.live
  pub next_stays : e.next ≡ b.next
