-- What a request asks for.
use Rattle.std.specs.Prelude.{ℕ, ◌+◌, ◌^◌, ◌<◌, Bool, true, false, length}
use Rattle.nesc_requests.specs.declared.request.Request.{Request}
use Rattle.nesc_requests.specs.declared.request.Request.TheVariants.{Read, Write, Flush}

-- its first block, and how many blocks it has; a flush has none, and names none
abbrev pub first_of : Request → ℕ
first_of (Read v into) = v
first_of (Write v from) = v
first_of Flush = 0

abbrev pub block_count : Request → ℕ
block_count (Read v into) = length into
block_count (Write v from) = length from
block_count Flush = 0

abbrev pub is_write : Request → Bool
is_write (Read v into) = false
is_write (Write v from) = true
is_write Flush = false

abbrev pub is_flush : Request → Bool
is_flush (Read v into) = false
is_flush (Write v from) = false
is_flush Flush = true

-- the numbers of its blocks fit their type
abbrev pub IsNumbered : Request → Type 0
IsNumbered request = first_of request + block_count request < 2 ^ 32
