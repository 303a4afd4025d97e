-- Texts of frames: a line for each column, with its name, its type and its values.
use Rattle.std.specs.Prelude.{ℕ, List, [], ◌++◌, codes, true, false, encode_utf8_all}
use Rattle.std.specs.Fmt.{signed_decimal}
use Rattle.std.specs.List.{flat_map}
use Rattle.plan_types.specs.Values.{Val, NullValue, TruthValue, IntValue, TextValue, ListValue, StructValue, Vals, no_value, with_value}
use Rattle.plan_types.specs.ValueViews.{values_from}
use Rattle.plan_report.specs.Texts.{type_text}
use Rattle.plan_exec.specs.LaidFrames.{Shown}

abbrev mutual
  -- a value: a text stands as it is, and the values of a list or a struct between brackets
  pub value_text : Val → List ℕ
  value_text NullValue = codes "null"
  value_text (TruthValue true) = codes "true"
  value_text (TruthValue false) = codes "false"
  value_text (IntValue number) = signed_decimal number
  value_text (TextValue text) = encode_utf8_all text
  value_text (ListValue items) = codes "[" ++ values_text items ++ codes " ]"
  value_text (StructValue parts) = codes "{" ++ values_text parts ++ codes " }"

  -- values, each behind a space
  pub values_text : Vals → List ℕ
  values_text no_value = []
  values_text (with_value first rest) = (codes " " ++ value_text first) ++ values_text rest

abbrev pub column_text : Shown → List ℕ
column_text column =
    codes "  " ++ encode_utf8_all column.0.0 ++ codes " " ++ type_text column.0.1 ++ values_text (values_from column.1) ++ codes "\n"

abbrev pub columns_text : List Shown → List ℕ
columns_text columns = flat_map column_text columns
