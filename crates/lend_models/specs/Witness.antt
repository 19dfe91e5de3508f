-- Two lists of calls after which hit differs between Entry and Premium, as their caches have replaced entries differently.
use Rattle.std.specs.Prelude.{ℕ, ◌*◌, Bool, List, [], ◌∷◌, ◌++◌}
use Rattle.lend.specs.Sizes.{Sizes, page_bytes}
use Rattle.lend.specs.Lists.{tabulate}
use Rattle.lend.specs.Tables.{alone}
use Rattle.lend.specs.Start.{start_board}
use Rattle.lend.specs.Calls.{Call, Translate, Reply, step, steps}

-- a look at page p of space 0, for reading
abbrev pub look : ℕ → Call
look p = Translate 0 (page_bytes * p) 4

-- looks at the pages 0 to 8: one more than Entry has places
abbrev pub nine_looks : List Call
nine_looks = tabulate 9 look

-- looks at the pages 0 to 15, at page 0 again, and at page 16: one page more than Premium has places
abbrev pub eighteen_looks : List Call
eighteen_looks = tabulate 16 look ++ (look 0 ∷ look 16 ∷ [])

-- the reply when page 0 is looked at after these calls on the start board
abbrev pub reply_after : Sizes → List Call → Reply
reply_after z cs = (step z (steps z (alone (start_board z)) cs) (look 0)).reply

-- the look is accepted and gives address 0, and page 0 was in the cache or not
abbrev pub looks_up : Bool → Reply
looks_up h = record { number = 0; emptied = 0; address = 0; hit = h; links = 1; byte = 0 }
