-- A server stands for its list with a restart.
use Rattle.std.proofs.Common.{◌≡◌, sym, subst, inl, ℕ, ◌+◌, ◌-◌, ◌<◌, ◌^◌, arith, false, List, ◌∷◌}
use Rattle.node.specs.declared.durable.Durable.{Durable}
use Rattle.disk_model.specs.declared.save_outcome.SaveOutcome.TheVariants.{Saved}
use Rattle.disk_model.specs.Notes.{Note}
use Rattle.server_core.specs.declared.machine.Machine.{Machine}
use Rattle.server_core.specs.declared.note.ServerNote.{ServerNote}
use Rattle.server_core.specs.History.{Opening, Entry, Restart}
use Rattle.server_core.specs.Note.{Says, SaysOneThing, spelling}
use Rattle.server_core.specs.Words.{boot, last_run}
use Rattle.server_core.specs.Stands.{MachineIs, blank}
use Rattle.server_core.specs.Ends.{StandsFor}

next_says : (bytes new : List ℕ) (n : ServerNote) → Says bytes n → n.boot < 2 ^ 64 - 1 → new ≡ spelling (record { boot = n.boot + 1; last_run = n.last_run })
    → Says new (record { boot = n.boot + 1; last_run = n.last_run })
next_says bytes new n s lt is = record { boot_range = omega (arith, lt); last_range = s.last_range; spelled = inl is }

pub restarted : {T : Type 0} (note : T → Note) (durable : Durable T) (machine : Machine) (old : List ℕ) (o : Opening) (past : List Entry) (me : ℕ) (n : ServerNote)
    → durable.down ≡ false → SaysOneThing → o.me ≡ me → Says old n → n.boot < 2 ^ 64 - 1
    → Says old (record { boot = boot o past; last_run = last_run o past }) → (note durable.notes).bytes ≡ spelling (record { boot = n.boot + 1; last_run = n.last_run })
    → MachineIs machine (blank me (n.boot + 1) n.last_run)
    → StandsFor note (record { durable = durable; machine = machine }) o (Restart Saved ∷ past)
restarted note durable machine old o past me n up one same read lt says bytes k =
    let is = one old n (record { boot = boot o past; last_run = last_run o past }) read says in
    let next : ServerNote = record { boot = n.boot + 1; last_run = n.last_run } in
    record {
      on = up;
      durable = subst (λ (x : ServerNote). Says (note durable.notes).bytes (record { boot = x.boot + 1; last_run = x.last_run })) is
          (next_says old (note durable.notes).bytes n read lt bytes);
      keeps = subst (λ (x : ServerNote). MachineIs machine (blank o.me (x.boot + 1) x.last_run)) is
          (subst (λ s. MachineIs machine (blank s (n.boot + 1) n.last_run)) (sym same) k);
    }
