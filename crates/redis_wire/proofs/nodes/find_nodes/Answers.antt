use Rattle.redis_wire.proofs.nodes.find_nodes.Goals as goal

pub reply_len-requires : goal.reply_len-requires
reply_len-requires c = c.new_scan.ensures c.args.bytes.now c.args.limits
