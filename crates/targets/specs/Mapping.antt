-- A map under way.
use Rattle.std.specs.Prelude.{◌≡◌, ◌≤◌, ℕ, ◌+◌, Bool, false, ◌||◌, if◌then◌else◌, List, ◌∷◌, [], ◌++◌, length, Option, Some, None, IfSome, Result, Ok, Err}
use Rattle.std.specs.Io.KnownBytes.{Consumes}
use Rattle.fc_base.specs.declared.fault.Fault.{Fault}
use Rattle.recheck.specs.Expected.{Expected}
use Rattle.recheck.specs.Check.{Check, HasSeen, start}
use Rattle.recheck.specs.Faults.{is_checked, last_write}
use Rattle.write_order.specs.Stamps.{written_bytes}
use Rattle.targets.specs.Units.{has_sound_units}
use Rattle.targets.specs.declared.map.Map.{Map}
use Rattle.targets.specs.declared.block_verdict.BlockVerdict.{BlockVerdict}
use Rattle.targets.specs.MapInput.{block_code, EndsInBlock, NoBlock}
use Rattle.targets.specs.Maps.{Tells, is_unread}

-- What a check is given of a block, where `written` are the bytes of its writes: where its units
-- are sound, what the last completed write puts there, so that it is sound to the check, too.
abbrev pub fed_by : Bool → Option ℕ → (ℕ → List ℕ) → List ℕ → List ℕ
fed_by sound None written bytes = bytes
fed_by sound (Some k) written bytes = if sound then written k else bytes

abbrev pub fed_bytes : Option ℕ → Expected → ℕ → List ℕ → List ℕ
fed_bytes None e block bytes = bytes
fed_bytes (Some unit) e block bytes =
    fed_by (has_sound_units e unit block bytes) (last_write e block)
    (λ k. written_bytes e.key e.job k block) bytes

-- No block has come, and there is room for one.
pub record IsReady (map : Map) : Type 0 where
  pub starts : map.check ≡ start map.check.expected false
  pub room : length map.bytes.items ≡ map.check.expected.job.bs
  pub wanted : length map.wanted.items ≡ map.check.expected.job.bs
  pub none : map.unread ≡ false

-- A map goes on: it is of the same job, no fault ends it, no block from this one on has come, and
-- there is room for a block.
pub record GoesOn (e : Expected) (map : Map) (block : ℕ) : Type 0 where
  pub expected : map.check.expected ≡ e
  pub fatal : map.check.fatal ≡ false
  pub next : map.check.next ≤ block
  pub room : length map.bytes.items ≡ e.job.bs
  pub wanted : length map.wanted.items ≡ e.job.bs

-- The check has seen a block with these bytes, as it is given it, or stays as it was where there
-- are none.
abbrev pub HasTaken : Option ℕ → Check → Check → ℕ → Option (List ℕ) → Type 0
HasTaken unit old new block None = new ≡ old
HasTaken unit old new block (Some bytes) =
    (held : ℕ → List ℕ) (blocks : List ℕ) →
    held block ≡ fed_bytes unit old.expected block bytes → HasSeen old held blocks →
    HasSeen new held (blocks ++ block ∷ [])

-- A block has come, and this is told of it.
pub record TakesBlock (unit : Option ℕ) (e : Expected) (old new : Map) (block : ℕ)
    (input left : Option (List ℕ)) (told : BlockVerdict) : Type 0 where
  pub bytes : Option (List ℕ)
  pub came : Consumes input left (block_code bytes)
  pub whole : IfSome bytes (λ l. length l ≡ e.job.bs)
  pub here : IfSome bytes (λ l. new.bytes.items ≡ l)
  pub tells : Tells unit e block bytes told
  pub taken : HasTaken unit old.check new.check block bytes
  pub unread : new.unread
      ≡ (old.unread || is_unread e (record { block = block; bytes = bytes; told = told }))

-- What comes of the next block.
abbrev pub Takes : Option ℕ → Expected → Map → Map → ℕ → Option (List ℕ) → Option (List ℕ)
    → Result (Option BlockVerdict) Fault → Type 0
Takes unit e old new block input left (Ok (Some told)) =
    TakesBlock unit e old new block input left told
Takes unit e old new block input left (Ok None) =
    EndsInBlock e.job.bs input left × (new.check ≡ old.check) × (new.unread ≡ old.unread)
Takes unit e old new block input left (Err fault) = NoBlock fault input left

-- What is told of a block with these bytes.
pub record TellsBytes (unit : Option ℕ) (old new : Check) (block : ℕ) (bytes : List ℕ)
    (told : BlockVerdict) : Type 0 where
  pub tells : Tells unit old.expected block (Some bytes) told
  pub expected : new.expected ≡ old.expected
  pub fatal : new.fatal ≡ old.fatal
  pub next : new.next ≡ block + 1
  pub taken : HasTaken unit old new block (Some bytes)

-- What is told of one that could not be read.
pub record TellsUnread (old new : Map) (block : ℕ) (told : BlockVerdict) : Type 0 where
  pub tells : (unit : Option ℕ) → Tells unit old.check.expected block None told
  pub check : new.check ≡ old.check
  pub bytes : new.bytes ≡ old.bytes
  pub wanted : new.wanted ≡ old.wanted
  pub unread : new.unread ≡ (old.unread || is_checked old.check.expected block)

-- A check was given this block with these bytes.
pub record IsFed (old new : Check) (block : ℕ) (bytes : List ℕ) : Type 0 where
  pub expected : new.expected ≡ old.expected
  pub fatal : new.fatal ≡ old.fatal
  pub next : new.next ≡ block + 1
  pub seen : (held : ℕ → List ℕ) (blocks : List ℕ) → held block ≡ bytes →
      HasSeen old held blocks → HasSeen new held (blocks ++ block ∷ [])
