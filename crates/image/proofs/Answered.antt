-- What an export shows, from what the call on the board answered.
use Prim.Native.Nat.{ℕ, ◌≤◌, ◌<◌}
use mathlib.Core.Path.{◌≡◌, refl, sym, ap, ◌∙◌}
use mathlib.Core.Bool.{Bool, true, false, cond}
use mathlib.Core.List.{List, []}
use native.Mathlib.Decide.{ℕ_discrete}
use native.Mathlib.Omega.{arith}
use lib.Dec.{T, eqb}
use lib.ListN.{length}
use borrow.Author.Tests.{eq-eqb, ne_eqb, eqb-true, le-leb, lt-leb}
use Rattle.lend.specs.declared.Count.{Count}
use Rattle.lend.specs.Sizes.{Sizes}
use Rattle.lend.specs.Tables.{Tables, State, table_of}
use Rattle.lend.specs.Summary.{count_at, count_of}
use Rattle.lend.specs.SoundTest.{sound_test}
use Rattle.lend.specs.Start.{start_board}
use Rattle.lend.specs.Calls.{Call, Create, Delete, Unmap, Flush, Map, Grant, Translate, Load, Store, Outcome, plain_reply, report, step, number}
use Rattle.lend_basics.proofs.Bools.{is_true}
use Rattle.lend_sound.proofs.SoundTest.{test_sound}
use Rattle.lend_sound.proofs.Summary.{summary_counts}
use Rattle.lend_laws.proofs.Accepted.{report_number}
use Rattle.image.specs.Image.{image_of, image_bytes, is_image, board_from, written}
use Rattle.lend.specs.Ranges.{RangeCall, RangeOutcome, range_number, range_step}
use Rattle.image.specs.Answered.{given, out_of, Left, left, left_by, answer_to, start_answer, finishing, sound_number, three_of, range_left_by, range_answer_to, range_finishing, four_of, frame_left, frame_answer}
use Rattle.image.proofs.Image.{sound_image, is_long, not_image}

-- a call that is done shows that the board is sound
done_sound : (z : Sizes) (st : State) (c : Call) → (step z st c).reply.number ≡ 0 → T (sound_test z st.board)
unfolding step number
done_sound z st c e = go (sound_test z st.board) refl
  where
    go : (b : Bool) → sound_test z st.board ≡ b → T (sound_test z st.board)
    go true q = rw q tt
    go false q = let wrong : ◌≡◌ {A = ℕ} 1 0 = rw q at e in absurd (omega arith)

module _ (z : Sizes) (call : Call) (image memory : List ℕ) (o : Outcome) (is : o ≡ step z (given z image memory) call) where
  -- so that its bytes are an image, and are written over
  writes : o.reply.number ≡ 0 → written z image o.state.board ≡ image_of o.state.board
  unfolding written
  writes e = rw (eq-eqb (length image) (image_bytes z) (is_long z image (sound_image z image (done_sound z (given z image memory) call (sym (ap (λ (x : Outcome). x.reply.number) is) ∙ e)))))

  pub answered : (first second third n : ℕ) (image' memory' out' : List ℕ) → left n image' [] out' ≡ finishing z o.state.board o.reply.number first second third image
      → memory' ≡ o.state.memory
      → three_of first second third ≡ out_of call o.reply
      → left n image' memory' out' ≡ answer_to z call image memory
  unfolding answer_to finishing
  answered first second third n image' memory' out' f m q =
      let image_is : image' ≡ cond (eqb o.reply.number 0) (image_of o.state.board) image = ap (λ (l : Left). l.image) f ∙ go (eqb o.reply.number 0) refl in
      let out-is : out' ≡ out_of call o.reply = ap (λ (l : Left). l.out) f ∙ q in
      (λ i. left (f i).number (image_is i) (m i) (out-is i)) ∙ ap (left_by call image) is
    where
      go : (b : Bool) → eqb o.reply.number 0 ≡ b → cond (eqb o.reply.number 0) (written z image o.state.board) image ≡ cond (eqb o.reply.number 0) (image_of o.state.board) image
      go true e = rw e (writes (eqb-true o.reply.number 0 e))
      go false e = rw e

-- the same, where the board was read from the image
pub answered_on : (z : Sizes) (call : Call) (image memory : List ℕ) (b : Tables) (o : Outcome) → b ≡ board_from z image → o ≡ step z (record { board = b; memory = memory }) call
    → (first second third n : ℕ) (image' memory' out' : List ℕ)
    → left n image' [] out' ≡ finishing z o.state.board o.reply.number first second third image
    → memory' ≡ o.state.memory
    → three_of first second third ≡ out_of call o.reply
    → left n image' memory' out' ≡ answer_to z call image memory
answered_on z call image memory b o e is = answered z call image memory o (is ∙ ap (λ (t : Tables). step z (record { board = t; memory = memory }) call) e)

-- the last part of a call: refused, and done
module _ (z : Sizes) (t : Tables) (number first second third : ℕ) (image : List ℕ) where
  pub finished_refused : (number ≡ 0 → ⊥) → left number image [] (three_of first second third) ≡ finishing z t number first second third image
  unfolding finishing
  finished_refused h = rw (ne_eqb number 0 h)

  pub finished_done : (image' : List ℕ) → number ≡ 0 → image' ≡ written z image t → left 0 image' [] (three_of first second third) ≡ finishing z t number first second third image
  unfolding finishing
  finished_done image' e w = rw e (ap (λ (l : List ℕ). left 0 l [] (three_of first second third)) w)

-- start and sound
pub started : (z : Sizes) (image image' : List ℕ) (b : Tables) (n : ℕ) → n ≡ cond (eqb (length image) (image_bytes z)) 0 1 → b ≡ start_board z → image' ≡ written z image b
    → left n image' [] (three_of 0 0 0) ≡ start_answer z image
unfolding start_answer
started z image image' b n e f w = λ i. left (e i) ((w ∙ ap (written z image) f) i) [] (three_of 0 0 0)

pub sound_told : (z : Sizes) (image : List ℕ) (b : Tables) (is : Bool) (n : ℕ) → n ≡ cond is 1 0 → b ≡ board_from z image → is ≡ sound_test z b → n ≡ sound_number z image
sound_told z image b is n e f g = e ∙ ap (λ (t : Bool). cond t 1 0) (g ∙ ap (sound_test z) f)

-- ── what include/lend.h promises of a refusal ────────────────────────────
out_none : (call : Call) (n : ℕ) → out_of call (plain_reply n 0) ≡ three_of 0 0 0
out_none (Create space) n = refl
out_none (Delete space) n = refl
out_none (Unmap space page rights) n = refl
out_none (Flush space page rights) n = refl
out_none (Map from page to at rights) n = refl
out_none (Grant from page to at rights) n = refl
out_none (Translate space address rights) n = refl
out_none (Load space address) n = refl
out_none (Store space address byte) n = refl

module _ (z : Sizes) (call : Call) (image memory : List ℕ) where
  refused_by : (n : ℕ) → number z (given z image memory) call ≡ n → (n ≡ 0 → ⊥) → answer_to z call image memory ≡ left n image memory (three_of 0 0 0)
  unfolding answer_to step
  refused_by n e h = rw (e, ne_eqb n 0 h, ne_eqb n 0 h) (ap (left n image memory) (out_none call n))

  -- after any number but 0 every byte is as it was, and every out field is 0
  pub refusal_leaves : (n : ℕ) → (answer_to z call image memory).number ≡ n → (n ≡ 0 → ⊥) → answer_to z call image memory ≡ left n image memory (three_of 0 0 0)
  unfolding answer_to step
  refusal_leaves n e h = go (ℕ_discrete (number z (given z image memory) call) 0)
    where
      go : Dec (number z (given z image memory) call ≡ 0) → answer_to z call image memory ≡ left n image memory (three_of 0 0 0)
      go (yes q) =
          let done : (report z (given z image memory) call).number ≡ n = rw (eq-eqb (number z (given z image memory) call) 0 q) at e in
          absurd (h (sym done ∙ report_number z (given z image memory) call))
      go (no q) =
          let refused : number z (given z image memory) call ≡ n = rw (ne_eqb (number z (given z image memory) call) 0 q) at e in
          refused_by n refused h

  -- and bytes that are no image give the number 1
  pub not_image_refused : is_image z image ≡ false → answer_to z call image memory ≡ left 1 image memory (three_of 0 0 0)
  unfolding number
  not_image_refused e = refused_by 1 (rw (not_image z image e)) (λ q. omega arith)

-- ── calls over ranges ────────────────────────────────────────────────────
-- a number other than 1 shows that the board is sound
range_sound : (z : Sizes) (st : State) (c : RangeCall) → ((range_step z st c).number ≡ 1 → ⊥) → T (sound_test z st.board)
unfolding range_step range_number
range_sound z st c h = go (sound_test z st.board) refl
  where
    go : (b : Bool) → sound_test z st.board ≡ b → T (sound_test z st.board)
    go true q = rw q tt
    go false q = absurd (h (rw q))

module _ (z : Sizes) (call : RangeCall) (image : List ℕ) (o : RangeOutcome) (is : o ≡ range_step z (given z image []) call) where
  range_writes : (o.number ≡ 1 → ⊥) → written z image o.state.board ≡ image_of o.state.board
  unfolding written
  range_writes h = rw (eq-eqb (length image) (image_bytes z) (is_long z image (sound_image z image (range_sound z (given z image []) call (λ e. h (ap (λ (x : RangeOutcome). x.number) is ∙ e))))))

  range_answered : (n : ℕ) (image' out' : List ℕ) → left n image' [] out' ≡ range_finishing z o.state.board o.number o.done o.offset o.emptied image
      → left n image' [] out' ≡ range_answer_to z call image
  unfolding range_answer_to range_finishing
  range_answered n image' out' f =
      f ∙ (ap (λ (l : List ℕ). left o.number l [] (three_of o.done o.offset o.emptied)) (go (ℕ_discrete o.number 1)) ∙ ap (range_left_by image) is)
    where
      go : Dec (o.number ≡ 1) → cond (eqb o.number 1) image (written z image o.state.board) ≡ cond (eqb o.number 1) image (image_of o.state.board)
      go (yes e) = rw (eq-eqb o.number 1 e)
      go (no h) = rw (ne_eqb o.number 1 h) (range_writes h)

-- the same, where the board was read from the image
pub range_answered_on : (z : Sizes) (call : RangeCall) (image : List ℕ) (b : Tables) (o : RangeOutcome) → b ≡ board_from z image → o ≡ range_step z (record { board = b; memory = [] }) call
    → (n : ℕ) (image' out' : List ℕ) → left n image' [] out' ≡ range_finishing z o.state.board o.number o.done o.offset o.emptied image
    → left n image' [] out' ≡ range_answer_to z call image
range_answered_on z call image b o e is = range_answered z call image o (is ∙ ap (λ (t : Tables). range_step z (record { board = t; memory = [] }) call) e)

-- the last part of such a call: no board's image, and else
module _ (z : Sizes) (t : Tables) (number first second third : ℕ) (image : List ℕ) where
  pub range_finished_refused : number ≡ 1 → left 1 image [] (three_of first second third) ≡ range_finishing z t number first second third image
  unfolding range_finishing
  range_finished_refused e = rw e

  pub range_finished_done : (image' : List ℕ) → (number ≡ 1 → ⊥) → image' ≡ written z image t → left number image' [] (three_of first second third) ≡ range_finishing z t number first second third image
  unfolding range_finishing
  range_finished_done image' h w = rw (ne_eqb number 1 h) (ap (λ (l : List ℕ). left number l [] (three_of first second third)) w)

-- ── the counts of a frame ────────────────────────────────────────────────
-- where the board was read from the image and tested
module _ (z : Sizes) (frame : ℕ) (image : List ℕ) {b : Tables} (e : b ≡ board_from z image) {is : Bool} (tests : is ≡ sound_test z b) where
  of_image : {l : Left} → l ≡ frame_left z b frame image → l ≡ frame_answer z frame image
  unfolding frame_answer
  of_image q = q ∙ ap (λ (t : Tables). frame_left z t frame image) e

  pub frame_unsound : is ≡ false → left 1 image [] (three_of 0 0 0) ≡ frame_answer z frame image
  frame_unsound h = of_image (rw (← tests, h))

  pub frame_past : is ≡ true → z.pages ≤ frame → left 5 image [] (three_of 0 0 0) ≡ frame_answer z frame image
  frame_past h l = of_image (rw (← tests, h, le-leb z.pages frame l))

  pub frame_told : is ≡ true → frame < z.pages → left 0 image [] (four_of (count_at b.summary frame)) ≡ frame_answer z frame image
  frame_told h l = of_image (rw (← tests, h, lt-leb z.pages frame l))

-- on a sound board each field counts the pages that end at the frame
pub frame_counts : (z : Sizes) (frame : ℕ) (image : List ℕ) → T (sound_test z (board_from z image)) → frame < z.pages
    → frame_answer z frame image ≡ left 0 image [] (four_of (count_of z (table_of (board_from z image)) frame))
frame_counts z frame image h l =
    sym (frame_told z frame image refl refl (is_true (sound_test z (board_from z image)) h) l)
    ∙ ap (λ (c : Count). left 0 image [] (four_of c))
    (ap (λ (s : List Count). count_at s frame) (test_sound z (board_from z image) h).summary ∙ summary_counts z (table_of (board_from z image)) frame l)

-- after any number but 0 every out field is 0
pub frame_refused : (z : Sizes) (frame : ℕ) (image : List ℕ) (n : ℕ) → (frame_answer z frame image).number ≡ n → (n ≡ 0 → ⊥) → frame_answer z frame image ≡ left n image [] (three_of 0 0 0)
unfolding frame_answer
frame_refused z frame image n e h = rw (e, ne_eqb n 0 h)
