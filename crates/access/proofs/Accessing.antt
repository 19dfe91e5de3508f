-- translate, load and store from the check of what they name to their outcome, over plain variables: refused, or accepted with what no
-- refusal has shown.
use mathlib.Core.Path.{◌≡◌, refl, ap, ◌∙◌}
use mathlib.Core.Bool.{Bool, true, false, not, cond}
use mathlib.Core.List.{List}
use Prim.Native.Nat.{ℕ}
use lib.ListN.{length, get_or, set}
use Rattle.std.specs.Option.{is_some}
use Rattle.std.specs.declared.option.Option.{Option}
use Rattle.std.specs.declared.option.Option.TheVariants.{Some, None}
use Rattle.std.proofs.lemmas.Bool.{eqb-false}
use Rattle.lend.specs.declared.refusal.Refusal.{Refusal}
use Rattle.lend.specs.Sizes.{Sizes, key, memory_bytes}
use Rattle.lend.specs.Rights.{read_right, write_right}
use Rattle.lend.specs.Slots.{slot_at}
use Rattle.lend.specs.Tables.{Tables, State, alone}
use Rattle.lend.specs.Line.{links_of}
use Rattle.lend.specs.Cache.{cached}
use Rattle.lend.specs.Translate.{address_page, with_entry}
use Rattle.lend.specs.Refusals.{number_of, refusal_not_done}
use Rattle.lend.specs.Calls.{Outcome, Translate, Load, Store, step, refuse, plain_reply}
use Rattle.lend_code.specs.Access.{access_number, look_at, new_entry, counted_of, byte_at}
use Rattle.lend_code.proofs.Access.{Accessible, memory_fits, translate_refused, translate_shows, translate_done, load_refused, load_shows, load_long, load_done, store_refused, store_shows, store_long, store_done}
use Rattle.access.specs.declared.look.Seen.{Seen}
use Rattle.access.specs.Answers.{beside, was_hit, links_followed, seen}

-- no refusal has the number of what is done
not_done : (r : Refusal) → number_of r ≡ 0 → ⊥
not_done r = eqb-false (number_of r) 0 (refusal_not_done r)

module _ (z : Sizes) (b : Tables) (space address rights : ℕ) where
  pub translate_not : (r : Refusal) → number_of r ≡ access_number z b true space address rights
      → refuse (alone b) (number_of r) ≡ step z (alone b) (Translate space address rights)
  translate_not r e = translate_refused z b space address rights (number_of r) e (not_done r)

  module _ (e : 0 ≡ access_number z b true space address rights) where
    pub translate_named : Accessible z b space address
    translate_named = translate_shows z b space address rights 0 e refl

    module _ (s : Seen) (t : Tables) (el : seen s t ≡ look_at z b space (address_page address)) where
      -- the look has changed no slot
      same_slots : t.slots ≡ b.slots
      unfolding look_at
      same_slots = ap (λ l. l.board.slots) el ∙ go (cached space (address_page address) b.places)
        where
          go : (h : Bool) → (cond h b (with_entry b (new_entry z b space (address_page address)))).slots ≡ b.slots
          go true = refl
          go false = refl

      -- the links that the rules count
      abbrev pub Counted : ℕ → Type 0
      Counted far = far ≡ counted_of z b.slots space (address_page address) (was_hit s.followed) (links_followed s.followed)

      pub counted_some : (links : ℕ) → s.followed ≡ Some links → Counted links
      unfolding counted_of
      counted_some links f = rw f refl

      pub counted_none : s.followed ≡ None → (k far : ℕ) → k ≡ key z space (address_page address) → far ≡ links_of z (slot_at t.slots) k → Counted far
      unfolding counted_of
      counted_none f k far ek ef = rw (f, ef, same_slots, ek) refl

      is_hit : (f : Option ℕ) (h : Bool) → is_some f ≡ not h → h ≡ was_hit f
      is_hit None true e = refl
      is_hit None false e = e
      is_hit (Some links) true e = e
      is_hit (Some links) false e = refl

      pub translate_made : (at far : ℕ) (h : Bool) → is_some s.followed ≡ not h → at ≡ byte_at s.frame address → Counted far
          → ◌≡◌ {A = Outcome} (record { reply = record { number = 0; emptied = 0; address = at; hit = h; links = far; byte = 0 }; state = alone t })
          (step z (alone b) (Translate space address rights))
      translate_made at far h eh ea ef =
          (λ i. record { reply = record { number = 0; emptied = 0; address = at; hit = is_hit s.followed h eh i; links = far; byte = 0 }; state = alone t })
          ∙ translate_done z b space address rights 0 e refl (seen s t) el at far ea ef

module _ (z : Sizes) (b : Tables) (memory : List ℕ) (space address : ℕ) where
  abbrev st : State
  st = beside b memory

  pub load_not : (r : Refusal) → number_of r ≡ access_number z b (memory_fits z st) space address read_right → refuse st (number_of r) ≡ step z st (Load space address)
  load_not r e = load_refused z st space address (number_of r) e (not_done r)

  module _ (e : 0 ≡ access_number z b (memory_fits z st) space address read_right) where
    pub load_named : Accessible z b space address
    load_named = load_shows z st space address 0 e refl

    pub load_memory : length memory ≡ memory_bytes z
    load_memory = load_long z st space address 0 e refl

    pub load_made : (s : Seen) (t : Tables) → seen s t ≡ look_at z b space (address_page address) → (at : ℕ) → at ≡ byte_at s.frame address
        → ◌≡◌ {A = Outcome} (record { reply = record { number = 0; emptied = 0; address = 0; hit = false; links = 0; byte = get_or memory at 0 }; state = beside t memory })
        (step z st (Load space address))
    load_made s t el at ea = load_done z st space address 0 e refl (seen s t) at el ea

  module _ (byte : ℕ) where
    pub store_not : (r : Refusal) → number_of r ≡ access_number z b (memory_fits z st) space address write_right → refuse st (number_of r) ≡ step z st (Store space address byte)
    store_not r e = store_refused z st space address byte (number_of r) e (not_done r)

    module _ (e : 0 ≡ access_number z b (memory_fits z st) space address write_right) where
      pub store_named : Accessible z b space address
      store_named = store_shows z st space address byte 0 e refl

      pub store_memory : length memory ≡ memory_bytes z
      store_memory = store_long z st space address byte 0 e refl

      pub store_made : (s : Seen) (t : Tables) → seen s t ≡ look_at z b space (address_page address) → (at : ℕ) → at ≡ byte_at s.frame address
          → ◌≡◌ {A = Outcome} (record { reply = plain_reply 0 0; state = beside t (set memory at byte) }) (step z st (Store space address byte))
      store_made s t el at ea = store_done z st space address byte 0 e refl (seen s t) at el ea
