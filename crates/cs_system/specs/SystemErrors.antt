-- What an error of the system says.
--
-- Source: this engine's own; the kinds of errors are the toolchain's.
--
--   SaysAbsent kind    an error of this kind says that no file has the name
--   SaysNobody kind    an error of this kind says that nobody comes in now, and nothing failed
--   SaysUnsynced kind  an error of this kind says that a folder can't be synced at all
use Rattle.std.specs.Prelude.{◌≡◌, ◌⊎◌}
use Rattle.std.specs.declared.io.ErrorKind.{ErrorKind}
use Rattle.std.specs.declared.io.ErrorKind.TheVariants.{NotFound, NotADirectory, InvalidInput, Unsupported, PermissionDenied, WouldBlock, Interrupted, ConnectionAborted}

-- no file has the name, or one of the folders that it names is none
abbrev pub SaysAbsent : ErrorKind → Type 0
SaysAbsent kind = (kind ≡ NotFound) ⊎ (kind ≡ NotADirectory)

-- nobody waits, a signal came first, or who waited went away
abbrev pub SaysNobody : ErrorKind → Type 0
SaysNobody kind = (kind ≡ WouldBlock) ⊎ (kind ≡ Interrupted) ⊎ (kind ≡ ConnectionAborted)

-- the file system syncs no folders, or this one may not be read
abbrev pub SaysUnsynced : ErrorKind → Type 0
SaysUnsynced kind = (kind ≡ InvalidInput) ⊎ (kind ≡ Unsupported) ⊎ (kind ≡ PermissionDenied)
