-- What the test of the pages finds: nothing where a part of it fails, else the rights, frames and counts of all pages.
use mathlib.Core.Path.{◌≡◌, refl, sym, ap, ◌∙◌}
use mathlib.Core.Bool.{Bool, true, false, ◌&&◌, cond}
use mathlib.Core.List.{List}
use Prim.Native.Nat.{ℕ, ◌≤◌}
use lib.ListN.{length}
use Rattle.std.specs.declared.option.Option.{Option}
use Rattle.std.specs.declared.option.Option.TheVariants.{Some, None}
use Rattle.std.proofs.lemmas.Option.{cond_some, none-some}
use Rattle.lend.specs.declared.Slot.{Slot}
use Rattle.lend.specs.declared.Count.{Count}
use Rattle.lend.specs.Sizes.{Sizes, slot_count}
use Rattle.lend.specs.Lists.{every, tabulate}
use Rattle.lend.specs.Slots.{slot_at}
use Rattle.lend.specs.Tables.{alive}
use Rattle.lend.specs.Line.{frame_of}
use Rattle.lend.specs.SoundTest.{slot_test, pages_test}
use Rattle.lend_basics.proofs.Bools.{and_false}
use Rattle.lend_code.specs.Inner.{rights_of, quick_line, summary_with}
use Rattle.lend_code.proofs.SoundCode.{pages_dead, pages_unfit, pages_unrooted, pages_fit, counts_are}
use Rattle.board.specs.declared.sound.Pages.{Pages}
use Rattle.board.specs.Found.{pages_of}

-- what was not found fails its test
pub none_false : {A : Type 0} (b : Bool) (x : A) → None ≡ cond b (Some x) None → b ≡ false
none_false true x e = absurd (none-some x e)
none_false false x e = refl

-- the frames of all pages, and where every line is good they are found
abbrev frames : Sizes → List Slot → List ℕ
frames z b = tabulate (slot_count z) (λ k. frame_of z (slot_at b) k)

abbrev pub frames_if : Sizes → List Slot → Option (List ℕ)
frames_if z b = cond (every (slot_count z) (quick_line z (slot_at b))) (Some (frames z b)) None

module _ {pages slots : ℕ} (z : Sizes) (b : List Slot) (live : List Bool) (long : length b ≡ slot_count z) where
  -- what is to be found
  abbrev pub Examined : Option (Pages pages slots) → Type 0
  Examined r = r ≡ cond (pages_test z live (slot_at b)) (Some (pages_of z b)) None

  nothing : false ≡ pages_test z live (slot_at b) → Examined None
  nothing e = rw (← e)

  pub first_dead : alive live 0 ≡ false → Examined None
  first_dead e = nothing (pages_dead z b live long (ap (λ (t : Bool). t && alive live 1) e))

  pub second_dead : alive live 1 ≡ false → Examined None
  second_dead e = nothing (pages_dead z b live long (ap (λ (t : Bool). alive live 0 && t) e ∙ and_false (alive live 0)))

  pub slots_unfit : every (slot_count z) (slot_test z live (slot_at b)) ≡ false → Examined None
  slots_unfit e = nothing (pages_unfit z b live long e)

  module _ (one : 1 ≤ z.spaces) (fits : every (slot_count z) (slot_test z live (slot_at b)) ≡ true) where
    pub lines_bad : None ≡ frames_if z b → Examined None
    lines_bad e = nothing (pages_unrooted z b live long fits one (none_false (every (slot_count z) (quick_line z (slot_at b))) (frames z b) e))

    pub all_good : alive live 0 ≡ true → alive live 1 ≡ true → (rights found : List ℕ) (counts : List Count) → rights ≡ rights_of z b
        → Some found ≡ frames_if z b → counts ≡ summary_with z (rights_of z b) found → Examined (Some (record { rights = rights; frames = found; counts = counts }))
    all_good a0 a1 rights found counts r f c =
        let good = cond_some (every (slot_count z) (quick_line z (slot_at b))) (frames z b) found (sym f) in
        rw (← pages_fit z b live long fits one good.0 (rw (a0, a1))) (λ i. Some (record {
          rights = r i;
          frames = sym good.1 i;
          counts = (c ∙ counts_are z b live long fits (rights_of z b) found refl (sym good.1)) i;
        }))
