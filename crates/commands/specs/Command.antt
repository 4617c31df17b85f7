-- What a command line may ask for.
use Rattle.std.specs.Prelude.{◌≡◌, ◌≤◌, ⊤, List, [], ◌∷◌, ℕ, codes}
use Rattle.fc_base.specs.declared.limits.TheConstants.{MAX_SERVERS, MAX_WORKERS}
use Rattle.program_io.specs.Words.{IsNumber}
use Rattle.commands.specs.declared.command.FleetSize.{FleetSize}
use Rattle.commands.specs.declared.command.Request.{Request}
use Rattle.commands.specs.declared.command.Request.TheVariants.{Jobs, World, Live}

-- There are 1 to 8 servers, of 1 to 16 workers each.
pub record IsFleetSize (size : FleetSize) : Type 0 where
  pub one_server : 1 ≤ size.servers
  pub few_servers : size.servers ≤ MAX_SERVERS
  pub one_worker : 1 ≤ size.workers
  pub few_workers : size.workers ≤ MAX_WORKERS

-- A live run has a size that a fleet may have.
abbrev pub IsRequest : Request → Type 0
IsRequest Jobs = ⊤
IsRequest World = ⊤
IsRequest (Live size path) = IsFleetSize size

-- Two words: the program's own, and the command.
abbrev pub IsCommand : List (List ℕ) → List ℕ → Type 0
IsCommand (program ∷ word ∷ []) command = word ≡ command
IsCommand _ command = ⊥

-- Five words: the program's own, `live`, how many servers and workers, and the path.
abbrev pub AsksLive : List (List ℕ) → FleetSize → List ℕ → Type 0
AsksLive (program ∷ word ∷ first ∷ second ∷ last ∷ []) size path =
    (word ≡ codes "live") × IsNumber first size.servers × IsNumber second size.workers × (last ≡ path)
AsksLive _ size path = ⊥

-- The words ask for just this.
abbrev pub Asks : List (List ℕ) → Request → Type 0
Asks words Jobs = IsCommand words (codes "jobs")
Asks words World = IsCommand words (codes "world")
Asks words (Live size path) = AsksLive words size path.now
