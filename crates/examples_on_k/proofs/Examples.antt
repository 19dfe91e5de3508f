-- The twelve examples hold on both models. On Entry each row is computed. A row whose numbers lie within Entry's limits then holds on
-- Premium too, as the same command does the same on both; the rows of Premium's own last address are computed.
use mathlib.Core.Path.{◌≡◌, refl, sym, ap, ◌∙◌}
use mathlib.Core.Bool.{not, ◌&&◌}
use mathlib.Core.List.{List, [], ◌∷◌}
use mathlib.Core.Logic.{◌⊎◌, inl, inr, ⊎_elim}
use lib.Dec.{T, T_not, eqb, lit<}
use Rattle.lend.specs.Sizes.{entry, premium}
use Rattle.lend.specs.Rights.{less, within}
use Rattle.lend.specs.Lists.{every, some, count, tabulate_from}
use Rattle.lend.specs.Tables.{Tables, State, alone}
use Rattle.lend.specs.Line.{line, frame, links}
use Rattle.lend.specs.Cache.{place_for, cached, empty_in, goes_to, next_after, lost_right}
use Rattle.lend.specs.Sound.{Sound}
use Rattle.lend.specs.SoundTest.{slot_test, pages_test, cache_test, summary_test, sound_test}
use Rattle.lend.specs.Summary.{summary_to}
use Rattle.lend.specs.Start.{start_board}
use Rattle.lend.specs.Withdraw.{unmapped, flushed}
use Rattle.lend.specs.Lending.{mapped, granted}
use Rattle.lend.specs.Spaces.{wiped_to}
use Rattle.lend.specs.Emptied.{emptied}
use Rattle.lend.specs.Translate.{physical, links_to, hit, looked}
use Rattle.lend.specs.Calls.{Outcome, cases, number, board_after, memory_after, report, step, steps}
use Rattle.lend_sound.proofs.SoundTest.{test_sound}
use Rattle.lend_lending.proofs.Always.{steps_sound}
use Rattle.lend_models.specs.Embedding.{shared, wide, wide_slots, wide_live, wide_places, wide_summary}
use Rattle.lend_models.specs.Agreement.{in_limits, all_in_limits, takes_memory, any_memory, replaces, wide_state, NoneReplaced}
use Rattle.lend_models.proofs.Wide.{entry_fits}
use Rattle.lend_models.proofs.WideSound.{wide_sound}
use Rattle.lend_models.proofs.SameCache.{same_reply, same_state, same_run}
use Rattle.examples_on_k.specs.Table.{slots_k, K, Row, table, Right, AllRight, Examples}

-- a row and the rows after it
infixr 20 ◌then◌
◌then◌ : {A B : Type 0} → A → B → A × B
◌then◌ a b = (a, b)

-- ── on Entry ─────────────────────────────────────────────────────────────
-- every row is computed; those of Premium's last address are not about Entry
pub entry_examples : Examples entry
unfolding table slots_k K start_board sound_test summary_test summary_to pages_test cache_test slot_test every some count line frame links less within tabulate_from place_for cached empty_in goes_to next_after lost_right unmapped flushed mapped granted wiped_to emptied physical links_to hit looked cases number board_after memory_after report step steps
entry_examples = record {
  sound = test_sound entry (K entry) tt;
  rows =
      (λ t. refl) then (λ t. refl) then (λ t. refl) then (λ t. refl) then (λ t. refl) then (λ t. refl) then (λ t. refl)
      then (λ t. refl) then (λ t. refl) then (λ t. refl) then (λ t. refl) then (λ t. refl) then (λ t. refl) then (λ t. refl)
      then (λ t. refl) then (λ t. refl) then (λ t. refl) then (λ t. refl)
      then (λ t. absurd t) then (λ t. absurd t) then (λ t. absurd t)
      then tt;
}

-- ── on Premium ───────────────────────────────────────────────────────────
-- K made wide is K
K_wide : wide entry premium (K entry) ≡ K premium
unfolding slots_k K start_board tabulate_from shared wide_slots wide_live wide_places wide_summary
K_wide = refl

-- the state in which a row's own call is made on Entry
abbrev before : Row → State
before r = steps entry (alone (K entry)) r.first

-- a row that Entry can be asked as well: it is about Entry; the calls made first, and then its own, lie within Entry's limits, take no
-- memory and replace no entry; and its board made wide is its board on Premium
abbrev Shared : Row → Type 0
Shared r =
    T (r.concerns entry)
    × T (all_in_limits entry r.first)
    × T (not (any_memory r.first))
    × NoneReplaced entry (alone (K entry)) r.first
    × T (in_limits entry r.call)
    × T (not (takes_memory r.call))
    × T (not (replaces (before r).board r.call && eqb (number entry (before r) r.call) 0))
    × (wide entry premium (r.board entry) ≡ r.board premium)

-- such a row holds on Premium where it holds on Entry
row_shared : (r : Row) → Shared r → (T (r.concerns entry) → Right entry r) → Right premium r
row_shared r s holds = ap (λ (st : State). step premium st r.call) first ∙ (λ i. record { reply = replies i; state = states i })
  where
    right : Right entry r
    right = holds s.0

    -- the calls made first come to the same state, made wide
    first : steps premium (alone (K premium)) r.first ≡ wide_state entry premium [] (before r)
    first =
        ap (λ (t : Tables). steps premium (alone t) r.first) (sym K_wide)
        ∙ same_run entry premium entry_fits (lit< tt) [] (alone (K entry)) entry_examples.sound r.first s.1
        (λ t. absurd (T_not (any_memory r.first) s.2 t)) s.3

    -- which is sound
    sound : Sound entry (before r).board
    sound = steps_sound entry (lit< tt) (alone (K entry)) entry_examples.sound r.first

    no_memory : {A : Type 0} → T (takes_memory r.call) → A
    no_memory t = absurd (T_not (takes_memory r.call) s.5 t)

    replies : (step premium (wide_state entry premium [] (before r)) r.call).reply ≡ r.reply
    replies =
        same_reply entry premium entry_fits (lit< tt) [] (before r) sound r.call s.4 no_memory
        ∙ ap (λ (o : Outcome). o.reply) right

    states : (step premium (wide_state entry premium [] (before r)) r.call).state ≡ alone (r.board premium)
    states =
        same_state entry premium entry_fits (lit< tt) [] (before r) sound r.call s.4 no_memory s.6
        ∙ (ap (λ (o : Outcome). wide_state entry premium [] o.state) right
        ∙ ap alone s.7)

-- a row of the table is such a row, or is right by itself where it is about Premium
abbrev Carried : Row → Type 0
Carried r = Shared r ⊎ (T (r.concerns premium) → Right premium r)

abbrev AllCarried : List Row → Type 0
AllCarried [] = Unit {0}
AllCarried (r ∷ rs) = Carried r × AllCarried rs

rows_carried : (rs : List Row) → AllCarried rs → AllRight entry rs → AllRight premium rs
rows_carried [] s right = tt
rows_carried (r ∷ rs) s right = ⊎_elim (λ w t. row_shared r w right.0) (λ w. w) s.0 then rows_carried rs s.1 right.1

-- the rows of the table are such rows, but for those of the two models' last addresses
table_carried : AllCarried table
unfolding table NoneReplaced slots_k K start_board sound_test summary_test summary_to pages_test cache_test slot_test every some count line frame links less within tabulate_from place_for cached empty_in goes_to next_after lost_right unmapped flushed mapped granted wiped_to emptied physical links_to hit looked cases number board_after memory_after report step steps shared wide_slots wide_live wide_places wide_summary
table_carried =
    inl (tt, tt, tt, tt, tt, tt, tt, refl)
    then inl (tt, tt, tt, (tt, tt), tt, tt, tt, refl)
    then inl (tt, tt, tt, tt, tt, tt, tt, refl)
    then inl (tt, tt, tt, tt, tt, tt, tt, refl)
    then inl (tt, tt, tt, tt, tt, tt, tt, K_wide)
    then inl (tt, tt, tt, tt, tt, tt, tt, K_wide)
    then inl (tt, tt, tt, tt, tt, tt, tt, K_wide)
    then inl (tt, tt, tt, tt, tt, tt, tt, K_wide)
    then inl (tt, tt, tt, tt, tt, tt, tt, K_wide)
    then inl (tt, tt, tt, tt, tt, tt, tt, K_wide)
    then inl (tt, tt, tt, tt, tt, tt, tt, K_wide)
    then inl (tt, tt, tt, tt, tt, tt, tt, K_wide)
    then inl (tt, tt, tt, tt, tt, tt, tt, refl)
    then inl (tt, tt, tt, tt, tt, tt, tt, refl)
    then inl (tt, tt, tt, tt, tt, tt, tt, refl)
    then inl (tt, tt, tt, tt, tt, tt, tt, refl)
    then inl (tt, tt, tt, (tt, tt), tt, tt, tt, refl)
    then inr (λ t. absurd t)
    then inr (λ t. refl)
    then inr (λ t. refl)
    then inr (λ t. refl)
    then tt

pub premium_examples : Examples premium
premium_examples = record {
  sound = rw (sym K_wide) (wide_sound entry premium entry_fits (lit< tt) (K entry) entry_examples.sound);
  rows = rows_carried table table_carried entry_examples.rows;
}
