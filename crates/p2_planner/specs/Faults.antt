-- What the faults below mean for a plan.
use Rattle.unit_slicer.specs.declared.fault.SliceFault.{SliceFault}
use Rattle.unit_slicer.specs.declared.fault.SliceFault.TheVariants as slice
use Rattle.pb_rows.specs.declared.fault.EncodeFault.{EncodeFault}
use Rattle.pb_rows.specs.declared.fault.EncodeFault.TheVariants as problem
use Rattle.p2_planner.specs.declared.fault.PlanFault.{PlanFault}
use Rattle.p2_planner.specs.declared.fault.PlanFault.TheVariants as plan

abbrev pub of_slice : SliceFault → PlanFault
of_slice slice.TooLarge = plan.SliceTooLarge
of_slice slice.NoMemory = plan.NoMemory

abbrev pub of_problem : EncodeFault → PlanFault
of_problem problem.TooLarge = plan.ProblemTooLarge
of_problem problem.NoMemory = plan.NoMemory
