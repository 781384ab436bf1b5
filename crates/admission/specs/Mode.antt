-- A mode and SPF as one number: the mode codes of the tables. Five zero bits, SPF required, writing prohibited, reading prohibited.
use Rattle.std.specs.Prelude.{ℕ, ◌-◌, Bool, true, false, cond, eqb, leb}
use Rattle.admission.specs.declared.Mode.{Mode}
use Rattle.admission.specs.declared.Mode.TheVariants.{Both, ReadOnly, WriteOnly}

-- the mode octet of tables 3.2-7, 3.2-9 and 3.2-25: one more where reading is prohibited, two more where writing is, four more where SPF is required
abbrev pub mode_code : Mode → Bool → ℕ
mode_code Both false = 0
mode_code WriteOnly false = 1
mode_code ReadOnly false = 2
mode_code Both true = 4
mode_code WriteOnly true = 5
mode_code ReadOnly true = 6

-- whether a code of the tables says that SPF is required
abbrev pub code_spf : ℕ → Bool
code_spf w = leb 4 w

-- the mode of a code without SPF
abbrev pub low_mode : ℕ → Mode
low_mode w = cond (eqb w 1) WriteOnly (cond (eqb w 2) ReadOnly Both)

-- the mode of a code of the tables. What is no code of theirs is read as both; it is never kept
abbrev pub code_mode : ℕ → Mode
code_mode w = low_mode (cond (leb 4 w) (w - 4) w)
