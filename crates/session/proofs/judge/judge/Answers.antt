-- `judge` meets its contract, by what the request is: the call that it is was made by the rules.
use mathlib.Core.Path.{ap, ◌∙◌}
use Rattle.script.specs.declared.Said.{Said}
use Rattle.script.proofs.Turns.{called}
use Rattle.board.specs.Model.{sizes}
use Rattle.board.specs.Board.{tables}
use Rattle.session.specs.Turned.{turned}
use Rattle.session.proofs.Found.{found_told}
use Rattle.session.proofs.judge.judge.Goals as goal

pub returns-in-Create : goal.returns-in-Create
returns-in-Create g c =
    let z = sizes g.row.SPACES g.row.PAGES g.row.PLACES in
    let b = tables c.create.new.b in
    rw c.in-Create.is (ap (λ (s : Said). turned s b) c.answered.ensures ∙ called z _ _ c.create.ensures)

pub returns-in-Delete : goal.returns-in-Delete
returns-in-Delete g c =
    let z = sizes g.row.SPACES g.row.PAGES g.row.PLACES in
    let b = tables c.delete.new.b in
    rw c.in-Delete.is (ap (λ (s : Said). turned s b) c.answered-in-Delete.ensures ∙ called z _ _ c.delete.ensures)

pub returns-in-Unmap : goal.returns-in-Unmap
returns-in-Unmap g c =
    let z = sizes g.row.SPACES g.row.PAGES g.row.PLACES in
    let b = tables c.unmap.new.b in
    rw c.in-Unmap.is (ap (λ (s : Said). turned s b) c.answered-in-Unmap.ensures ∙ called z _ _ c.unmap.ensures)

pub returns-in-Flush : goal.returns-in-Flush
returns-in-Flush g c =
    let z = sizes g.row.SPACES g.row.PAGES g.row.PLACES in
    let b = tables c.flush.new.b in
    rw c.in-Flush.is (ap (λ (s : Said). turned s b) c.answered-in-Flush.ensures ∙ called z _ _ c.flush.ensures)

pub returns-in-Map : goal.returns-in-Map
returns-in-Map g c =
    let z = sizes g.row.SPACES g.row.PAGES g.row.PLACES in
    let b = tables c.map.new.b in
    rw c.in-Map.is (ap (λ (s : Said). turned s b) c.answered-in-Map.ensures ∙ called z _ _ c.map.ensures)

pub returns-in-Grant : goal.returns-in-Grant
returns-in-Grant g c =
    let z = sizes g.row.SPACES g.row.PAGES g.row.PLACES in
    let b = tables c.grant.new.b in
    rw c.in-Grant.is (ap (λ (s : Said). turned s b) c.answered-in-Grant.ensures ∙ called z _ _ c.grant.ensures)

pub returns-in-Translate : goal.returns-in-Translate
returns-in-Translate g c =
    let z = sizes g.row.SPACES g.row.PAGES g.row.PLACES in
    let b = tables c.translate.new.b in
    rw c.in-Translate.is (ap (λ (s : Said). turned s b) (c.looked.ensures ∙ found_told c.translate.result) ∙ called z _ _ c.translate.ensures)
