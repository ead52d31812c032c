-- Why a tree that was read is refused.
use Rattle.tree_check.specs.declared.faults.TreeRefused.{TreeRefused}
use Rattle.tree_check.specs.declared.faults.TreeRefused.TheVariants.{Fault, NoMemory}
use Rattle.tree_check.specs.Written.{Written}
use Rattle.tree_check.specs.Faults.{IsFirstFault}

-- the fault told is the first one; want of memory can come at any time
abbrev pub IsRefused : Written → TreeRefused → Type 0
IsRefused w (Fault line kind) = IsFirstFault w line kind
IsRefused w NoMemory = Unit {0}
