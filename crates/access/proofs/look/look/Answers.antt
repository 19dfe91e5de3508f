-- `look` meets its contract: the code is the definition, by what the search of the cache hands back.
use mathlib.Core.Path.{◌≡◌, refl, sym, ◌∙◌}
use mathlib.Core.Bool.{Bool, true, false, cond}
use Rattle.std.specs.declared.option.Option.TheVariants.{Some, None}
use Rattle.std.proofs.lemmas.Option.{cond_some, none-some}
use Prim.Native.Nat.{ℕ}
use Rattle.lend.specs.declared.Place.{Place}
use Rattle.lend.specs.Sizes.{Sizes, key}
use Rattle.lend.specs.Tables.{Tables, table_of}
use Rattle.lend.specs.Cache.{cached}
use Rattle.lend.specs.Translate.{with_entry}
use Rattle.lend_code.specs.Inner.{inside_of}
use Rattle.lend_code.specs.Access.{Look, look_at}
use Rattle.lend_code.proofs.Access.{Reached, look_hit, look_miss}
use Rattle.board.specs.Model.{sizes}
use Rattle.board.specs.Board.{tables}
use Rattle.board.specs.Found.{place_found}
use Rattle.access.proofs.look.look.Goals as goal

module _ (z : Sizes) (b : Tables) (space page : ℕ) where
  hit : (q : Place) → Some q ≡ place_found b.places space page
      → ◌≡◌ {A = Look} (record { board = b; frame = q.frame; links = 0; hit = true }) (look_at z b space page)
  hit q e = let found = cond_some (cached space page b.places) _ q (sym e) in look_hit z b space page true (sym found.0) q (sym found.1) refl

  none_found : (t : Bool) (q : Place) → None ≡ cond t (Some q) None → false ≡ t
  none_found true q e = absurd (none-some q e)
  none_found false q e = refl

  miss : None ≡ place_found b.places space page → (fr over k at : ℕ) → k ≡ key z space page → Reached z b.slots k fr over → at ≡ inside_of z k → (t : Tables)
      → t ≡ with_entry b (record { space = space; page = page; frame = fr; rights = (table_of b at).rights })
      → ◌≡◌ {A = Look} (record { board = t; frame = fr; links = over; hit = false }) (look_at z b space page)
  miss e fr over k at ek r ea t et =
      (λ i. record { board = et i; frame = fr; links = over; hit = false })
      ∙ look_miss z b space page false (none_found (cached space page b.places) _ e) k fr over at ek r ea refl

pub returns-in-Some : goal.returns-in-Some
returns-in-Some g c = hit (sizes g.row.SPACES g.row.PAGES g.row.PLACES) (tables c.args.b.now) c.args.space c.args.page c.in-Some.place c.in-Some.ensures

pub returns : goal.returns
returns g c =
    miss (sizes g.row.SPACES g.row.PAGES g.row.PLACES) (tables c.args.b.now) c.args.space c.args.page c.in_default.ensures _ _ _ _ c.key-k.ensures
    (c.lookup-end.ensures.frame, c.lookup-end.ensures.links) c.inside.ensures _ c.insert.ensures
