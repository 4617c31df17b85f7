-- What is told of a script that has no status is all that its run has written.
use Rattle.std.proofs.Common.{inl, inr, ℕ, List, ◌++◌, Option, None, Some, Result, Ok, Err, IfSome, IfOk, ap, ◌∙◌}
use Rattle.std.specs.Io.KnownBytes.{Keeps, Appends}
use Rattle.net_script.specs.declared.script_fault.ScriptFault.{ScriptFault}
use Rattle.net_script.specs.declared.script_fault.ScriptFault.TheVariants as unread
use Rattle.net_script.specs.Runs.{Runs}
use Rattle.commands.specs.World.{AnswersScript, RefusesUnread}

appends_kept : (a b c : Option (List ℕ)) (text : List ℕ) → Keeps a b → Appends b c text → Appends a c text
appends_kept None b c text kept told = tt
appends_kept (Some x) None c text kept told = absurd kept
appends_kept (Some x) (Some y) None text kept told = absurd told
appends_kept (Some x) (Some y) (Some z) text kept told = told ∙ ap (λ l. l ++ text) kept

unread_told : (script : List ℕ) (a b c : Option (List ℕ)) (fault : ScriptFault) (status : ℕ) → Runs script a b (Err fault) → RefusesUnread fault b c status
    → AnswersScript script a c status
unread_told script a b c unread.ReadError status run told = inr (inl (appends_kept a b c _ run told.0, told.1))
unread_told script a b c unread.NoMemory status run told = inr (inr (appends_kept a b c _ run told.0, told.1))
unread_told script a b c unread.WriteError status run told = absurd told

-- A script that has no status is answered by why it has none.
pub unread_answers : {E : Type 0} (input a b c : Option (List ℕ)) (fault : ScriptFault) (result : Result ℕ E)
    → IfSome input (λ script. Runs script a b (Err fault)) → IfOk result (RefusesUnread fault b c)
    → IfSome input (λ script. IfOk result (AnswersScript script a c))
unread_answers None a b c fault result run told = tt
unread_answers (Some script) a b c fault (Ok status) run told = unread_told script a b c fault status run told
unread_answers (Some script) a b c fault (Err error) run told = tt
