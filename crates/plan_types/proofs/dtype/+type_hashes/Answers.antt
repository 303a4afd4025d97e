use Rattle.plan_types.proofs.HashLemmas.{fields_start, struct_fed}
use Rattle.plan_types.proofs.dtype.+type_hashes.Goals as goal

pub DataType::feed-returns-in-Struct : goal.DataType::feed-returns-in-Struct
DataType::feed-returns-in-Struct g t c =
    struct_fed g.H.Hasher.write c.args.self.now c.in-Struct.fields c.as_slice.result.now c.code.result c.args.state.now c.hash.new.state c.feed_fields.new.state c.in-Struct.is c.as_slice.ensures.value c.code.ensures c.hash.ensures c.feed_fields.ensures

pub feed_fields-loop-field-init : goal.feed_fields-loop-field-init
feed_fields-loop-field-init g t c = fields_start g.H.Hasher.write c.args.fields.now c.args.state.now c.hash.new.state c.hash.ensures
