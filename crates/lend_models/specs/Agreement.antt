-- The same command on two models (00; 02, M-100): which calls both can be asked, and in what their outcomes agree.
use Rattle.std.specs.Prelude.{ℕ, ◌-◌, ◌≡◌, Bool, true, false, not, ◌&&◌, ◌||◌, List, [], ◌∷◌, ◌++◌, T, eqb, ltb}
use Rattle.lend.specs.Sizes.{Sizes, memory_bytes}
use Rattle.lend.specs.Tables.{Tables, State}
use Rattle.lend.specs.Cache.{any_empty}
use Rattle.lend.specs.Translate.{hit}
use Rattle.lend.specs.Calls.{Call, Create, Delete, Unmap, Flush, Map, Grant, Translate, Load, Store, Outcome, number, step}
use Rattle.lend_models.specs.Embedding.{wide, wide_slots, wide_live, wide_summary}

-- ── the calls ────────────────────────────────────────────────────────────
-- the numbers of the call lie within the limits of the sizes; rights and a byte know no sizes
abbrev pub is_page : Sizes → ℕ → ℕ → Bool
is_page z space page = ltb space z.spaces && ltb page z.pages

abbrev pub is_address : Sizes → ℕ → ℕ → Bool
is_address z space address = ltb space z.spaces && ltb address (memory_bytes z)

abbrev pub in_limits : Sizes → Call → Bool
in_limits z (Create space) = ltb space z.spaces
in_limits z (Delete space) = ltb space z.spaces
in_limits z (Unmap space page rights) = is_page z space page
in_limits z (Flush space page rights) = is_page z space page
in_limits z (Map from page to at rights) = is_page z from page && is_page z to at
in_limits z (Grant from page to at rights) = is_page z from page && is_page z to at
in_limits z (Translate space address rights) = is_address z space address
in_limits z (Load space address) = is_address z space address
in_limits z (Store space address byte) = is_address z space address

abbrev pub all_in_limits : Sizes → List Call → Bool
all_in_limits z [] = true
all_in_limits z (c ∷ cs) = in_limits z c && all_in_limits z cs

-- the call reads or writes memory
abbrev pub takes_memory : Call → Bool
takes_memory (Create space) = false
takes_memory (Delete space) = false
takes_memory (Unmap space page rights) = false
takes_memory (Flush space page rights) = false
takes_memory (Map from page to at rights) = false
takes_memory (Grant from page to at rights) = false
takes_memory (Translate space address rights) = false
takes_memory (Load space address) = true
takes_memory (Store space address byte) = true

-- some call of the list does
abbrev pub any_memory : List Call → Bool
any_memory [] = false
any_memory (c ∷ cs) = takes_memory c || any_memory cs

-- ── the two states ───────────────────────────────────────────────────────
-- the larger model's spaces and pages are those of the smaller one, its cache whatever it is; its memory goes on with the bytes of rest
pub record Embeds (z w : Sizes) (rest : List ℕ) (small large : State) : Type 0 where
  pub slots_same : large.board.slots ≡ wide_slots z w small.board.slots
  pub live_same : large.board.live ≡ wide_live z w small.board.live
  pub memory_same : large.memory ≡ small.memory ++ rest

-- the bytes that the larger model has more
abbrev pub more_bytes : Sizes → Sizes → ℕ
more_bytes z w = memory_bytes w - memory_bytes z

-- ── the two outcomes ─────────────────────────────────────────────────────
-- the same number, emptied, address, links and byte; states that embed again; and the same counts for the frames that both have
pub record Agree (z w : Sizes) (rest : List ℕ) (small large : Outcome) : Type 0 where
  pub same_number : large.reply.number ≡ small.reply.number
  pub same_emptied : large.reply.emptied ≡ small.reply.emptied
  pub same_address : large.reply.address ≡ small.reply.address
  pub same_links : large.reply.links ≡ small.reply.links
  pub same_byte : large.reply.byte ≡ small.reply.byte
  pub embeds_again : Embeds z w rest small.state large.state
  pub same_summary : large.state.board.summary ≡ wide_summary w small.state.board.summary

-- two runs of the same calls agree at each of them
unfoldable pub AllAgree : Sizes → Sizes → List ℕ → State → State → List Call → Type 0
AllAgree z w rest small large [] = Embeds z w rest small large
AllAgree z w rest small large (c ∷ cs) =
    Agree z w rest (step z small c) (step w large c) × AllAgree z w rest (step z small c).state (step w large c).state cs

-- ── where hit may differ ─────────────────────────────────────────────────
-- a page that is not in the cache is looked up while no place is empty: the entry in the next place gives way to it
abbrev pub gives_way : Tables → ℕ → ℕ → Bool
gives_way b space address = not (hit b space address) && not (any_empty b.places)

-- the call, if it is accepted, replaces an entry of the board's cache
abbrev pub replaces : Tables → Call → Bool
replaces b (Create space) = false
replaces b (Delete space) = false
replaces b (Unmap space page rights) = false
replaces b (Flush space page rights) = false
replaces b (Map from page to at rights) = false
replaces b (Grant from page to at rights) = false
replaces b (Translate space address rights) = gives_way b space address
replaces b (Load space address) = gives_way b space address
replaces b (Store space address byte) = gives_way b space address

-- the state on the larger model whose cache too is the smaller one's, with empty places after it
abbrev pub wide_state : Sizes → Sizes → List ℕ → State → State
wide_state z w rest st = record { board = wide z w st.board; memory = st.memory ++ rest }

-- no accepted call of the list replaces an entry
unfoldable pub NoneReplaced : Sizes → State → List Call → Type 0
NoneReplaced z st [] = Unit {0}
NoneReplaced z st (c ∷ cs) = T (not (replaces st.board c && eqb (number z st c) 0)) × NoneReplaced z (step z st c).state cs
