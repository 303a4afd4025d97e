-- What is printed of a lowered plan, and of a refusal.
-- A report has a line for each node, a node before those below it, and then the number of casts.
use Rattle.std.specs.Prelude.{ℕ, ◌+◌, List, [], ◌∷◌, ◌++◌, Option, Some, None, codes, decimal}
use Rattle.plan_types.specs.Schemas.{Columns}
use Rattle.plan_types.specs.declared.error.ErrorKind.{ErrorKind}
use Rattle.plan_dsl.specs.Trees.{Trees, node, no_more, more}
use Rattle.plan_dsl.specs.Ops.{Expression}
use Rattle.plan_dsl.specs.Plans.{Named, PlanOp, Plan}
use Rattle.plan_dsl.specs.Counts.{cast_count}
use Rattle.plan_dsl.specs.PlanRules.{schema_of}
use Rattle.plan_dsl.specs.Registry.{Registry}
use Rattle.plan_arena.specs.Items.{kind_text}
use Rattle.plan_report.specs.Texts.{schema_text, path_text, error_kind_text}

-- a line: the place, the name and the schema
abbrev pub line_text : List ℕ → List ℕ → Columns → List ℕ
line_text path name schema = path_text path ++ codes " " ++ name ++ codes " " ++ schema_text schema ++ codes "\n"

-- the schema that a line shows
abbrev pub shown : Option Columns → Columns
shown None = []
shown (Some schema) = schema

-- a node's line, with the schema that the rules give it
abbrev pub node_line : List ℕ → PlanOp (Named Expression) → Option Columns → List ℕ
node_line path op schema = line_text path (kind_text op.kind) (shown schema)

abbrev mutual
  -- the lines of the plan whose top has that place
  pub plan_lines : Registry → List ℕ → Plan → List ℕ
  plan_lines registry path (node op children) =
      node_line path op (schema_of registry (node op children)) ++ children_lines registry path 0 children

  -- the lines of the children from that number on
  pub children_lines : Registry → List ℕ → ℕ → Trees (PlanOp (Named Expression)) → List ℕ
  children_lines registry path number no_more = []
  children_lines registry path number (more child rest) =
      plan_lines registry (path ++ number ∷ []) child ++ children_lines registry path (number + 1) rest

abbrev pub casts_line : ℕ → List ℕ
casts_line count = codes "casts " ++ decimal count ++ codes "\n"

abbrev pub report_text : Registry → Plan → List ℕ
report_text registry plan = plan_lines registry [] plan ++ casts_line (cast_count plan)

abbrev pub refusal_text : ErrorKind → List ℕ → List ℕ
refusal_text kind place = codes "refused " ++ error_kind_text kind ++ codes " " ++ path_text place ++ codes "\n"
