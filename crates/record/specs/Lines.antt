-- The line of a record. Assumes nothing.
use Rattle.std.specs.Prelude.{ℕ, List, ◌++◌, codes, decimal}
use Rattle.format1.specs.declared.Record.{Record}

-- the fields, each after its name
abbrev pub fields : Record → List ℕ
fields r =
    (codes "priority " ++ (decimal r.priority
    ++ (codes " code " ++ (decimal r.code
    ++ (codes " length " ++ (decimal r.length
    ++ (codes " start " ++ (decimal r.start
    ++ (codes " gap " ++ (decimal r.gap
    ++ (codes " mcs " ++ decimal r.mcs)))))))))))
    ++ (codes " again " ++ decimal r.again)
