-- What the calls of this crate answer, as outcomes of the rules: the number, each call's own fields, and the board and memory after it. A refusal's other
-- fields are 0.
use Rattle.std.specs.Prelude.{ℕ, Bool, true, false, List}
use Rattle.std.specs.declared.option.Option.{Option}
use Rattle.std.specs.declared.option.Option.TheVariants.{Some, None}
use Rattle.std.specs.declared.result.Result.{Result}
use Rattle.std.specs.declared.result.Result.TheVariants.{Ok, Err}
use Rattle.lend.specs.declared.refusal.Refusal.{Refusal}
use Rattle.lend.specs.Tables.{Tables, State, alone}
use Rattle.lend.specs.Refusals.{number_of, answer_of}
use Rattle.lend.specs.Calls.{Reply, Outcome, plain_reply}
use Rattle.lend_code.specs.Access.{Look}
use Rattle.access.specs.declared.translate.Translation.{Translation}
use Rattle.access.specs.declared.look.Seen.{Seen}

-- a board and a memory as what a call works on
abbrev pub beside : Tables → List ℕ → State
beside t memory = record { board = t; memory = memory }

abbrev pub translation_reply : Result Translation Refusal → Reply
translation_reply (Ok x) = record { number = 0; emptied = 0; address = x.address; hit = x.hit; links = x.links; byte = 0 }
translation_reply (Err r) = plain_reply (number_of r) 0

abbrev pub translated : Result Translation Refusal → Tables → Outcome
translated r t = record { reply = translation_reply r; state = alone t }

abbrev pub byte_of : Result ℕ Refusal → ℕ
byte_of (Ok byte) = byte
byte_of (Err r) = 0

-- load leaves memory as it was
abbrev pub loaded : Result ℕ Refusal → Tables → List ℕ → Outcome
loaded r t memory = record {
  reply = record { number = answer_of r; emptied = 0; address = 0; hit = false; links = 0; byte = byte_of r };
  state = beside t memory;
}

abbrev pub stored : Result (Unit {0}) Refusal → Tables → List ℕ → Outcome
stored r t memory = record { reply = plain_reply (answer_of r) 0; state = beside t memory }

-- what a look at a page finds: a hit has followed no link
abbrev pub was_hit : Option ℕ → Bool
was_hit None = true
was_hit (Some links) = false

abbrev pub links_followed : Option ℕ → ℕ
links_followed None = 0
links_followed (Some links) = links

abbrev pub seen : Seen → Tables → Look
seen s t = record { board = t; frame = s.frame; links = links_followed s.followed; hit = was_hit s.followed }
