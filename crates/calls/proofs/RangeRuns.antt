-- A run over the pages of a range, from its first checks to its outcome, over plain variables: it goes as the one of the rules does.
use mathlib.Core.Path.{◌≡◌, refl, sym, ap, ◌∙◌}
use mathlib.Core.List.{List}
use Prim.Native.Nat.{ℕ, ◌+◌, ◌≤◌, ◌<◌}
use native.Mathlib.Omega.{arith}
use Rattle.std.specs.declared.option.Option.{Option}
use Rattle.std.specs.declared.option.Option.TheVariants.{Some, None}
use Rattle.std.specs.declared.result.Result.{Result}
use Rattle.std.specs.declared.result.Result.TheVariants.{Ok, Err}
use Rattle.lend.specs.declared.refusal.Refusal.{Refusal}
use Rattle.lend.specs.Sizes.{Sizes}
use Rattle.lend.specs.Tables.{Tables, alone}
use Rattle.lend.specs.Sound.{Sound}
use Rattle.lend.specs.Refusals.{number_of, refusal_not_done}
use Rattle.lend.specs.Calls.{Call, step}
use Rattle.lend.specs.Ranges.{RangeCall, RangeOutcome, range_number, range_pages, page_call, range_step}
use Rattle.lend_code.specs.Inner.{rights_of, lost_all}
use Rattle.lend_code.specs.Ranges.{none_made, one_more, made_one, all_made}
use Rattle.lend_code.proofs.RangeLoop.{Going, pages_small, going_none, going_more, range_refused_law, range_shows, range_done_law}
use Rattle.calls.specs.declared.progress.Progress.{Progress}
use Rattle.calls.specs.Answer.{outcome}
use Rattle.calls.specs.Progress.{refused_number, refused_offset, range_outcome, page_made}
use Rattle.calls.proofs.Refused.{not_done}

-- what a run has come to before its emptied pages are counted
abbrev run_outcome : Sizes → Progress → Tables → RangeOutcome
run_outcome z p t = record { number = refused_number p.refused; done = p.done; offset = refused_offset z.pages p.refused; emptied = 0; state = alone t }

-- one page more is one page more of the rules, whatever was counted before
pub made_law : (z : Sizes) (p : Progress) (i : ℕ) (page : Result ℕ Refusal) (t u : Tables)
    → range_outcome z (Ok (page_made z.pages p i page)) u ≡ made_one z (range_outcome z (Ok p) t) (outcome page u) i
unfolding made_one one_more
made_law z p i page t u = go p.refused page
  where
    go : (refused : Option (ℕ × Refusal)) (page : Result ℕ Refusal)
        → range_outcome z (Ok (page_made z.pages (record { done = p.done; refused = refused; emptied = p.emptied }) i page)) u
        ≡ made_one z (range_outcome z (Ok (record { done = p.done; refused = refused; emptied = p.emptied })) t) (outcome page u) i
    go None (Ok n) = refl
    go (Some x) (Ok n) = rw (refusal_not_done x.1)
    go None (Err r) = rw (refusal_not_done r)
    go (Some x) (Err r) = rw (refusal_not_done r, refusal_not_done x.1)

-- nothing that was emptied is counted yet
made_empty : (pages : ℕ) (p : Progress) (i : ℕ) (page : Result ℕ Refusal) → (page_made pages p i page).emptied ≡ 0
made_empty pages p i (Ok n) = refl
made_empty pages p i (Err r) = refl

more : (z : Sizes) (p : Progress) (i : ℕ) (page : Result ℕ Refusal) (t u : Tables)
    → run_outcome z (page_made z.pages p i page) u ≡ made_one z (run_outcome z p t) (outcome page u) i
unfolding made_one
more z p i page t u =
    let q = page_made z.pages p i page in
    (λ j. record { number = refused_number q.refused; done = q.done; offset = refused_offset z.pages q.refused; emptied = sym (made_empty z.pages p i page) j; state = alone u })
    ∙ made_law z p i page t u

-- refused by the first checks
pub run_refused : (z : Sizes) (b : Tables) (c : RangeCall) (r : Refusal) → number_of r ≡ range_number z (alone b) c → range_outcome z (Err r) b ≡ range_step z (alone b) c
run_refused z b c r e = range_refused_law z (alone b) c (number_of r) e (not_done r)

-- a call on the board b that passed them and goes over m pages has come, after i of them, as far as the rules; the board is then t, and still sound
pub record Run (z : Sizes) (b : Tables) (c : RangeCall) (m : ℕ) (p : Progress) (t : Tables) (i : ℕ) : Type 0 where
  pub passed : 0 ≡ range_number z (alone b) c
  pub pages : m ≡ range_pages z c
  pub so_far : Going z (alone b) c (run_outcome z p t) i
  pub sound : Sound z t

module _ {z : Sizes} {b : Tables} {c : RangeCall} {m : ℕ} where
  pub run_none : 0 ≡ range_number z (alone b) c → m ≡ range_pages z c → Run z b c m (record { done = 0; refused = None; emptied = 0 }) b 0
  run_none passed pages =
      let whole = range_shows z (alone b) c 0 passed refl in
      record { passed = passed; pages = pages; so_far = going_none z (alone b) c (none_made z (alone b)) refl whole; sound = whole }

  module _ {p : Progress} {t : Tables} {i : ℕ} (run : Run z b c m p t i) where
    -- no more pages than a u32 holds
    pub run_small : z.pages ≤ 256 → i < m → p.done < 4294967295
    run_small few h = omega (arith, few, run.so_far.counted, run.pages, pages_small z c)

    -- one page more
    pub run_more : 1 ≤ z.pages → i < m → (call : Call) → call ≡ page_call z c i → (page : Result ℕ Refusal) (u : Tables)
        → outcome page u ≡ step z (alone t) call → (q : Progress) → q ≡ page_made z.pages p i page → Run z b c m q u (i + 1)
    run_more some-page h call is-call page u is-page q is-q =
        let on = going_more z some-page (alone b) c (run_outcome z p t) i run.so_far m run.pages h call is-call (outcome page u) is-page (run_outcome z q u)
        (ap (λ (x : Progress). run_outcome z x u) is-q ∙ more z p i page t u) (i + 1) refl
        in record { passed = run.passed; pages = run.pages; so_far = on; sound = on.sound }

    -- and all of them
    pub run_all : m ≤ i → (before after : List ℕ) → before ≡ rights_of z b.slots → after ≡ rights_of z t.slots → (n : ℕ) → n ≡ lost_all z before after
        → range_outcome z (Ok (record { done = p.done; refused = p.refused; emptied = n })) t ≡ range_step z (alone b) c
    unfolding all_made
    run_all h before after is-before is-after n is-n =
        range_done_law z (alone b) c 0 run.passed refl before is-before m run.pages (none_made z (alone b)) refl (run_outcome z p t) i run.so_far h
        _ (λ j. record {
          number = refused_number p.refused;
          done = p.done;
          offset = refused_offset z.pages p.refused;
          emptied = (is-n ∙ ap (lost_all z before) is-after) j;
          state = alone t;
        })
