-- Lowered plans: which are accepted, strict and named, and how they run on tables.
-- A plan is accepted where each of its nodes has a schema by the rules, which is the one that it records where
-- it records one, strict where each of its expressions is, without aliases, and named where each has its own name or an
-- alias, and so has each operand of a function. It runs by what its expressions give as they are written.
use Rattle.std.specs.Prelude.{◌≡◌, ◌⊎◌, List, [], ◌∷◌, Option, Some, None, is_some, IsTrue}
use Rattle.std.specs.List.{AllByRecursion}
use Rattle.plan_types.specs.Schemas.{Columns}
use Rattle.plan_types.specs.Outcomes.{Outcome}
use Rattle.plan_types.specs.Frames.{Frame}
use Rattle.plan_dsl.specs.Registry.{Registry}
use Rattle.plan_dsl.specs.Aliases.{IsCore}
use Rattle.plan_dsl.specs.Trees.{Trees, node, no_more, more, fold, fold_all}
use Rattle.plan_dsl.specs.Ops.{Op, FunctionOp, Expression}
use Rattle.plan_dsl.specs.Names.{FromAlias, Label, label_of, op_label}
use Rattle.plan_dsl.specs.Plans.{Named, OverInput, PlanOp, Plan, expressions_of}
use Rattle.plan_dsl.specs.PlanRules.{input_schema, schema_of, schemas_of}
use Rattle.plan_dsl.specs.PlanMeaning.{MeetsWhere}
use Rattle.plan_dsl.specs.PlanKernels.{Evaluation, plan_kernel}
use Rattle.plan_dsl.specs.Strictness.{IsStrict}
use Rattle.plan_dsl.specs.StrictRun.{strict_run}
use Rattle.plan_dsl.specs.Typing.{typing}

-- a node's own schema: the one that it records, or else the one that it has by the rules
abbrev pub own_schema : Option Columns → Option Columns → Option Columns
own_schema None found = found
own_schema (Some recorded) found = Some recorded

-- a node has a schema by the rules: the one that it records, where it records one
abbrev pub HasRecorded : Option Columns → Option Columns → Type 0
HasRecorded None found = IsTrue (is_some found)
HasRecorded (Some recorded) found = found ≡ Some recorded

abbrev mutual
  -- each node has a schema by the rules, and a schema that is recorded is that one
  pub IsAccepted : Registry → Plan → Type 0
  IsAccepted registry (node op inputs) = HasRecorded op.recorded (schema_of registry (node op inputs)) × AllAccepted registry inputs

  pub AllAccepted : Registry → Trees (PlanOp (Named Expression)) → Type 0
  AllAccepted registry no_more = Unit {0}
  AllAccepted registry (more plan rest) = IsAccepted registry plan × AllAccepted registry rest

-- an expression is strict and has no aliases
abbrev pub IsStrictCore : Registry → Columns → Expression → Type 0
IsStrictCore registry schema tree = IsCore tree × IsStrict registry schema tree

-- there is a schema, over which the expressions are strict, and they have no aliases
abbrev pub AreStrictOver : Registry → Option Columns → List (Named Expression) → Type 0
AreStrictOver registry None outputs = ⊥
AreStrictOver registry (Some schema) outputs = AllByRecursion (λ output. IsStrictCore registry schema output.expression) outputs

-- the expressions of a node are strict, by the schemas of its inputs
abbrev pub AreStrict : Registry → List (Option Columns) → List (OverInput (Named Expression)) → Type 0
AreStrict registry inputs es = AllByRecursion (λ e. AreStrictOver registry (input_schema inputs e.input) e.outputs) es

abbrev mutual
  -- each node's expressions are strict
  pub IsStrictPlan : Registry → Plan → Type 0
  IsStrictPlan registry (node op inputs) =
      AreStrict registry (schemas_of registry inputs) (expressions_of op.kind) × AllStrictPlans registry inputs

  pub AllStrictPlans : Registry → Trees (PlanOp (Named Expression)) → Type 0
  AllStrictPlans registry no_more = Unit {0}
  AllStrictPlans registry (more plan rest) = IsStrictPlan registry plan × AllStrictPlans registry rest

-- a name that is recorded is an alias, or the name that the rules give, from what they say
abbrev pub IsNameFor : Label → Label → Type 0
IsNameFor recorded own = (recorded.origin ≡ FromAlias) ⊎ (recorded ≡ own)

-- so are names one by one, and there are as many of them
abbrev pub AreNamesFor : List Label → List Label → Type 0
AreNamesFor [] [] = Unit {0}
AreNamesFor (name ∷ names) (own ∷ owns) = IsNameFor name own × AreNamesFor names owns
AreNamesFor [] (own ∷ owns) = ⊥
AreNamesFor (name ∷ names) [] = ⊥

-- a function records a name for each of its operands, which have these by the rules
abbrev pub NamesOver : Op → List Label → Type 0
NamesOver (FunctionOp function recorded) owns = AreNamesFor recorded owns
NamesOver op owns = Unit {0}

abbrev mutual
  -- each function in an expression does
  pub NamesOperands : Expression → Type 0
  NamesOperands (node op children) = NamesOver op (fold_all op_label children) × AllNameOperands children

  pub AllNameOperands : Trees Op → Type 0
  AllNameOperands no_more = Unit {0}
  AllNameOperands (more child rest) = NamesOperands child × AllNameOperands rest

-- an expression is under such a name, and so are the operands of each function in it
abbrev pub HasOwnName : Named Expression → Type 0
HasOwnName output = IsNameFor output.label (label_of output.expression) × NamesOperands output.expression

-- the expressions of a node are
abbrev pub HaveOwnNames : List (OverInput (Named Expression)) → Type 0
HaveOwnNames es = AllByRecursion (λ e. AllByRecursion HasOwnName e.outputs) es

abbrev mutual
  -- each node's expressions are
  pub IsNamedPlan : Plan → Type 0
  IsNamedPlan (node op inputs) = HaveOwnNames (expressions_of op.kind) × AllNamedPlans inputs

  pub AllNamedPlans : Trees (PlanOp (Named Expression)) → Type 0
  AllNamedPlans no_more = Unit {0}
  AllNamedPlans (more plan rest) = IsNamedPlan plan × AllNamedPlans rest

-- evaluation of expressions as they are written
abbrev pub by_running : Registry → Evaluation
by_running registry frame output =
    record { name = output.label.name; typing = typing registry frame.schema output.expression; gives = strict_run registry frame output.expression }

-- what a plan gives on tables: a frame, a data fault, or it is stuck
abbrev pub plan_run : Registry → List Frame → Plan → Outcome Frame
plan_run registry tables plan = fold (plan_kernel tables (by_running registry)) plan

abbrev mutual
  -- no node is stuck, and the frame of each has exactly the node's own schema, with fitting values
  pub RunsSoundly : Registry → List Frame → Plan → Type 0
  RunsSoundly registry tables (node op inputs) =
      MeetsWhere (own_schema op.recorded (schema_of registry (node op inputs))) (plan_run registry tables (node op inputs)) × AllRunSoundly registry tables inputs

  pub AllRunSoundly : Registry → List Frame → Trees (PlanOp (Named Expression)) → Type 0
  AllRunSoundly registry tables no_more = Unit {0}
  AllRunSoundly registry tables (more plan rest) = RunsSoundly registry tables plan × AllRunSoundly registry tables rest
