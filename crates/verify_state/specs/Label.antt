-- The name under which a state is stored.
use Rattle.std.specs.Prelude.{ℕ, List, ◌++◌, codes, decimal}
use Rattle.fc_base.specs.declared.numbers.Key.{Key}

-- `s`, the server's number, the job's name, the job's number and `verify.state`, with dashes
-- between.
abbrev pub label : Key → List ℕ → List ℕ
label key name =
    codes "s" ++ (decimal key.server
    ++ (codes "-" ++ (name ++ (codes "-" ++ (decimal key.job ++ codes "-verify.state")))))
