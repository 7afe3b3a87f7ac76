-- How long is waited on a connection, in milliseconds.
--
-- Source: this engine's own.
--
--   wait_of phase pending   how long what is waited for may take; where something is pending, how long nothing of it may be taken
--   rest_of phase           after how long the connection may make way for another one, if it ever may
use Rattle.std.specs.Prelude.{ℕ, Bool, true, false, Option, Some, None}
use Rattle.cs_system.specs.declared.phase.Phase.{Phase}
use Rattle.cs_system.specs.declared.bounds.TheConstants.{FIRST_WAIT, HEAD_WAIT, IDLE_WAIT, SEND_WAIT, LINGER, KEEP_LEAST, LINGER_LEAST}

abbrev pub wait_of : Phase → Bool → ℕ
wait_of phase true = SEND_WAIT
wait_of Phase.First false = FIRST_WAIT
wait_of Phase.Head false = HEAD_WAIT
wait_of Phase.Next false = IDLE_WAIT
wait_of Phase.Leaving false = SEND_WAIT
wait_of Phase.Over false = LINGER

abbrev pub rest_of : Phase → Option ℕ
rest_of Phase.First = Some KEEP_LEAST
rest_of Phase.Head = None
rest_of Phase.Next = Some KEEP_LEAST
rest_of Phase.Leaving = None
rest_of Phase.Over = Some LINGER_LEAST
