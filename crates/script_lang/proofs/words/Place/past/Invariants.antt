use Rattle.std.proofs.Common.{◌≡◌, ◌+◌, ◌≤◌, drop}
use Rattle.script_lang.specs.Parts.{place_past}
use Rattle.script_lang.proofs.words.Place.past.Given as goal

-- the bytes that are left lead from where they begin to where all of them lead
abbrev pub invariant-loop-b : goal.invariant-loop-b
invariant-loop-b l = record {
  place : place_past (drop l.b-index l.bytes) l.place ≡ place_past l.bytes l.fn.self;
  counted : 1 ≤ l.place.column;
  within : l.place.line + l.place.column ≤ l.fn.self.line + l.fn.self.column + l.b-index;
}
