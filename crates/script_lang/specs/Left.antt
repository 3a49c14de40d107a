-- What is left of a script while it is given out, and how many buffers are kept with requests that came back.
use Rattle.std.specs.Prelude.{◌≡◌, ℕ, ◌+◌, ◌*◌, Bool, true, false, List, ◌∷◌, replicate, unwrap_or}
use Rattle.nesc_requests.specs.Buffers.{request_buffers}
use Rattle.nesc_requests.specs.Script.{Script, numbered, requests_of, with_numbered}
use Rattle.nesc_requests.specs.declared.host.HostCommand.{HostCommand}
use Rattle.nesc_requests.specs.declared.machine.Machine.{Machine}
use Rattle.nesc_requests.specs.declared.request.Request.{Request}

-- what is left of a script, whether the last request that was taken of each guest, numbered from 1, is out, and how
-- many buffers are kept with requests that came back
pub record Left : Type 0 where
  pub script : Script
  pub out : List Bool
  pub kept : ℕ

-- the last request that was taken of a guest is out
abbrev pub is_out : Left → ℕ → Bool
is_out left f = unwrap_or (numbered left.out f) false

-- How many buffers serve a machine: one for each request that may wait, one for a request of each guest that came back,
-- and one for what is on its way.
abbrev pub buffers_of : Machine → ℕ
buffers_of machine = machine.functions * (machine.queue + 1) + 1

-- a script of which nothing was taken
abbrev pub untouched : Script → Left
untouched script = record {
  script = script;
  out = replicate script.machine.functions false;
  kept = 0;
}

-- the command was the host's next, and this is left after it
pub record TakesCommand (old : Left) (command : HostCommand) (new : Left) : Type 0 where
  pub left : List HostCommand
  pub next : old.script.host ≡ command ∷ left
  pub result : new ≡ record old { script = record old.script { host = left } }

-- the request was the guest's next, it is out now, and this is left after it
pub record TakesRequest (old : Left) (f : ℕ) (request : Request) (new : Left) : Type 0 where
  pub left : List Request
  pub next : requests_of old.script f ≡ request ∷ left
  pub script : new.script ≡ record old.script { guests = with_numbered old.script.guests f left }
  pub out : new.out ≡ with_numbered old.out f true

-- what is left once a request came back, which is the guest's next again and keeps its buffer
abbrev pub with_back : Left → ℕ → Request → Left
with_back old f request = record {
  script = record old.script { guests = with_numbered old.script.guests f (request ∷ requests_of old.script f) };
  out = with_numbered old.out f false;
  kept = old.kept + request_buffers request;
}
