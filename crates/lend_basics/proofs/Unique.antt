-- A contract of our form admits one result: the result, seen through a view that loses nothing, is what a definition says.
use mathlib.Core.Path.{◌≡◌, sym, ap, ◌∙◌}

-- view has a way back, so two results with the same view are one
pub one_result : {A B : Type 0} (view : A → B) (back : B → A) → ((x : A) → back (view x) ≡ x) → {meaning : B} {r s : A}
    → view r ≡ meaning → view s ≡ meaning → r ≡ s
one_result view back same {r = r} {s = s} hr hs = sym (same r) ∙ (ap back (hr ∙ sym hs) ∙ same s)
