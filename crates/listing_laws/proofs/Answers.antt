-- The reader answers what the document says.
use Prim.Native.Nat.{ℕ}
use mathlib.Core.Path.{◌≡◌, refl, sym, ap, ◌∙◌}
use mathlib.Core.Bool.{Bool, true, false, ◌&&◌}
use mathlib.Core.List.{List}
use Rattle.std.specs.Prelude.{Option, Some, None}
use native.Mathlib.Omega.{arith}
use lib.ListN.{length}
use lib.Dec.{T, eqb, eqb→eq}
use borrow.Author.Tests.{eq-eqb}
use Rattle.lend_basics.proofs.Bools.{and_l, and_r, and_i, is_true, is_false, true_is}
use Rattle.lend.specs.Sizes.{Sizes}
use Rattle.lend.specs.Sound.{Sound}
use Rattle.lend.specs.SoundTest.{sound_test}
use Rattle.lend.specs.Tables.{Tables}
use Rattle.lend_sound.proofs.SoundTest.{sound_test_law, test_sound}
use Rattle.listing.specs.Content.{Content, Says, Ordered, rising_above, board_of}
use Rattle.listing.specs.Read.{Answer, refused, accepted, Reads, said, refusal, by_number, judged, answer_by, reading}
use Rattle.listing.proofs.Said.{Readable, said_of, said_back}

-- the order, as the reader tests it
abbrev pub order_test : Sizes → Content → Bool
order_test z c = rising_above z 0 c.rows && eqb (length c.rows) c.held

test_ordered : (z : Sizes) (c : Content) → T (order_test z c) → Ordered z c
test_ordered z c h = record {
  rising = and_l (rising_above z 0 c.rows) (eqb (length c.rows) c.held) h;
  all_counted = eqb→eq (length c.rows) c.held (and_r (rising_above z 0 c.rows) (eqb (length c.rows) c.held) h);
}

ordered_test : (z : Sizes) (c : Content) → Ordered z c → T (order_test z c)
ordered_test z c h =
    and_i (rising_above z 0 c.rows) (eqb (length c.rows) c.held) h.rising (true_is _ (eq-eqb (length c.rows) c.held h.all_counted))

not_both : (b : Bool) → b ≡ false → T b → ⊥
not_both b e h = rw e at h

-- what a text that says c is answered
by_content : (z : Sizes) → Readable z → (s : List ℕ) (c : Content) → Says z s c → reading z s ≡ judged z true (order_test z c) (board_of z c)
unfolding reading
by_content z small s c h = ap (answer_by z) (said_of z small s c h)

-- the reader answers, for any bytes, what is to be answered
pub reads : (z : Sizes) → Readable z → (s : List ℕ) → Reads z s (reading z s)
unfolding refusal judged reading
reads z small s = record {
  malformed = none_said;
  disordered = λ c h never. by_content z small s c h ∙ rw (is_false (order_test z c) (λ t. never (test_ordered z c t)));
  unsound = λ c h o never. by_content z small s c h
      ∙ rw (is_true (order_test z c) (ordered_test z c o), is_false (sound_test z (board_of z c)) (λ t. never (test_sound z (board_of z c) t)));
  read = λ c h o w. by_content z small s c h
      ∙ rw (is_true (order_test z c) (ordered_test z c o), is_true (sound_test z (board_of z c)) (sound_test_law z (board_of z c) w));
}
  where
    none_said : ((c : Content) → Says z s c → ⊥) → reading z s ≡ refused z 17
    none_said never = go (said z s) refl
      where
        go : (x : Option Content) → said z s ≡ x → answer_by z x ≡ refused z 17
        go None e = refl
        go (Some c) e = absurd (never c (said_back z s c e))

-- an accepted text: what it says, in order and sound
pub record Taken (z : Sizes) (s : List ℕ) (b : Tables) : Type 0 where
  pub content : Content
  pub says : Says z s content
  pub ordered : Ordered z content
  pub sound : Sound z b
  pub board_is : b ≡ board_of z content

-- and every accepted text is such
pub taken : (z : Sizes) (s : List ℕ) (b : Tables) → reading z s ≡ accepted b → Taken z s b
unfolding reading refusal judged
taken z s b e = go (said z s) refl e
  where
    go : (x : Option Content) → said z s ≡ x → answer_by z x ≡ accepted b → Taken z s b
    go None q e = let n : ◌≡◌ {A = ℕ} 17 0 = ap (λ (a : Answer). a.number) e in absurd (omega arith)
    go (Some c) q e = order (order_test z c) refl (sound_test z (board_of z c)) refl e
      where
        order : (t : Bool) → order_test z c ≡ t → (u : Bool) → sound_test z (board_of z c) ≡ u
            → by_number z (board_of z c) (refusal true t u) ≡ accepted b → Taken z s b
        order false p u r e = let n : ◌≡◌ {A = ℕ} 18 0 = ap (λ (a : Answer). a.number) e in absurd (omega arith)
        order true p false r e = let n : ◌≡◌ {A = ℕ} 1 0 = ap (λ (a : Answer). a.number) e in absurd (omega arith)
        order true p true r e =
            let w : board_of z c ≡ b = ap (λ (a : Answer). a.board) e in
            record {
              content = c;
              says = said_back z s c q;
              ordered = test_ordered z c (true_is _ p);
              sound = rw w at (test_sound z (board_of z c) (true_is _ r));
              board_is = sym w;
            }

-- a text says one thing at most
pub says_once : (z : Sizes) → Readable z → (s : List ℕ) (c d : Content) → Says z s c → Says z s d → c ≡ d
says_once z small s c d h g = let e : Some c ≡ Some d = sym (said_of z small s c h) ∙ said_of z small s d g in cc

-- and so one answer only is right
pub reads_once : (z : Sizes) → Readable z → (s : List ℕ) (a : Answer) → Reads z s a → a ≡ reading z s
reads_once z small s a h = go (said z s) refl
  where
    r : Reads z s (reading z s)
    r = reads z small s

    go : (x : Option Content) → said z s ≡ x → a ≡ reading z s
    go None e = h.malformed (λ c g. absurd (never c g)) ∙ sym (r.malformed (λ c g. absurd (never c g)))
      where
        never : (c : Content) → Says z s c → ⊥
        never c g = let n : None ≡ Some c = sym e ∙ said_of z small s c g in let w : ◌≡◌ {A = ℕ} 0 1 = cc in omega arith
    go (Some c) e = order (order_test z c) refl (sound_test z (board_of z c)) refl
      where
        g : Says z s c
        g = said_back z s c e

        order : (t : Bool) → order_test z c ≡ t → (u : Bool) → sound_test z (board_of z c) ≡ u → a ≡ reading z s
        order false p u q =
            let no-order : Ordered z c → ⊥ = λ o. not_both (order_test z c) p (ordered_test z c o) in
            h.disordered c g no-order ∙ sym (r.disordered c g no-order)
        order true p false q =
            let o = test_ordered z c (true_is _ p) in
            let no-sound : Sound z (board_of z c) → ⊥ = λ w. not_both (sound_test z (board_of z c)) q (sound_test_law z (board_of z c) w) in
            h.unsound c g o no-sound ∙ sym (r.unsound c g o no-sound)
        order true p true q =
            let o = test_ordered z c (true_is _ p) in
            let w = test_sound z (board_of z c) (true_is _ q) in
            h.read c g o w ∙ sym (r.read c g o w)
