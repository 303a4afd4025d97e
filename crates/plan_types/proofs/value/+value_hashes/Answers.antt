use Rattle.plan_types.proofs.HashLemmas.{list_fed, struct_value_fed, values_start}
use Rattle.plan_types.proofs.value.+value_hashes.Goals as goal

pub Value::feed-returns-in-List : goal.Value::feed-returns-in-List
Value::feed-returns-in-List g t c =
    list_fed g.H.Hasher.write c.args.self.now c.in-List.items c.as_slice.result.now c.args.state.now c.hash-in-List.new.state c.feed_values.new.state c.in-List.is c.as_slice.ensures.value c.hash-in-List.ensures c.feed_values.ensures

pub Value::feed-returns-in-Struct : goal.Value::feed-returns-in-Struct
Value::feed-returns-in-Struct g t c =
    struct_value_fed g.H.Hasher.write c.args.self.now c.in-Struct.parts c.as_slice-in-Struct.result.now c.args.state.now c.hash-in-Struct.new.state c.feed_values-in-Struct.new.state c.in-Struct.is c.as_slice-in-Struct.ensures.value c.hash-in-Struct.ensures c.feed_values-in-Struct.ensures

pub feed_values-loop-value-init : goal.feed_values-loop-value-init
feed_values-loop-value-init g t c = values_start g.H.Hasher.write c.args.values.now c.args.state.now c.hash.new.state c.hash.ensures
