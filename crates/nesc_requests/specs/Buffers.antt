-- Buffers of blocks that are spare, and how many go along with what is asked for and with what is answered.
use Rattle.std.specs.Prelude.{ℕ, ◌≤◌, Option, Some, None}
use Rattle.nesc_requests.specs.declared.event.Event.{Event}
use Rattle.nesc_requests.specs.declared.event.Event.TheVariants as event
use Rattle.nesc_requests.specs.declared.host.HostAnswer.{HostAnswer}
use Rattle.nesc_requests.specs.declared.host.HostAnswer.TheVariants.{Got}
use Rattle.nesc_requests.specs.declared.host.HostCommand.{HostCommand}
use Rattle.nesc_requests.specs.declared.host.HostCommand.TheVariants.{Put, Get}
use Rattle.nesc_requests.specs.declared.request.Reply.{Reply}
use Rattle.nesc_requests.specs.declared.request.Request.{Request}
use Rattle.nesc_requests.specs.declared.request.Request.TheVariants.{Flush}

-- how many are spare, and how many may be
pub record Spare : Type 0 where
  pub count : ℕ
  pub room : ℕ

pub record HaveRoom (count room : ℕ) : Type 0 where
  pub within : count ≤ room

-- one with a request, but for a flush
abbrev pub request_buffers : Request → ℕ
request_buffers Flush = 0
request_buffers request = 1

-- one with a command that writes blocks or reads them
abbrev pub command_buffers : HostCommand → ℕ
command_buffers (Put name v blocks) = 1
command_buffers (Get name v into) = 1
command_buffers command = 0

abbrev pub event_buffers : Event → ℕ
event_buffers (event.Submit f request) = request_buffers request
event_buffers (event.Host command) = command_buffers command
event_buffers other = 0

-- one with the blocks that the host gets
abbrev pub answer_buffers : HostAnswer → ℕ
answer_buffers (Got blocks) = 1
answer_buffers answer = 0

-- and one that comes back with the request of a reply
abbrev pub reply_buffers : Option Reply → ℕ
reply_buffers None = 0
reply_buffers (Some reply) = request_buffers reply.request
