-- The words of contracts, re-exported from the crates below: the clauses of a caller take them from here.
-- If two crates have a word of the same name, the settings of options are `..Settings` here.
pub use Rattle.redis_args.specs.Clause.{clause, flag}
pub use Rattle.redis_args.specs.FixedArgs.{AreEnds, pieces}
pub use Rattle.redis_args.specs.Room.{HasRoom, LacksRoom, MayRefuse}
pub use Rattle.redis_args.specs.Writer.{Wrote}
pub use Rattle.redis_connection.specs.Ask.{Asks, HasNoAnswer}
pub use Rattle.redis_connection.specs.Cause.{failure_of, pack_failure_of, refusal_of, write_failure_of}
pub use Rattle.redis_connection.specs.Link.{GivesOut, IsEnded, IsFaulty, IsInPlace, Link, Receives, Sends, SendsFront}
pub use Rattle.redis_connection.specs.Link.{Stands, Waits}
pub use Rattle.redis_connection.specs.Passing.{AnswerStands, AwaitsAnswer, BeginsAsMessage, IsAnswerInPlace, IsMessage}
pub use Rattle.redis_connection.specs.Passing.{Passes, PassesOne, ReceivesAnswer, one_more}
pub use Rattle.redis_connection.specs.Seen.{seen}
pub use Rattle.redis_resp.specs.Boolean.{truth_reading}
pub use Rattle.redis_resp.specs.Bytes.{bytes_reading}
pub use Rattle.redis_resp.specs.FieldsMeaning.{fields_of}
pub use Rattle.redis_resp.specs.Leaf.{has_buffer}
pub use Rattle.redis_resp.specs.Number.{signed_reading, unsigned_reading}
pub use Rattle.redis_resp.specs.Reading.{four_in, four_reading, is_nil, list_reading, option_reading, three_in}
pub use Rattle.redis_resp.specs.Reading.{three_reading, two_in, two_reading}
pub use Rattle.redis_resp.specs.Record.{HasOneRecord, same_record}
pub use Rattle.redis_resp.specs.Refusal.{Refuses, RefusesBytes, RefusesField, RefusesFour, RefusesList}
pub use Rattle.redis_resp.specs.Refusal.{RefusesNothing, RefusesNumber, RefusesOption, RefusesOwnedBytes}
pub use Rattle.redis_resp.specs.Refusal.{RefusesOwnedText, RefusesPairs, RefusesText, RefusesThree, RefusesTwo}
pub use Rattle.redis_resp.specs.Refusal.{RefusesValue}
pub use Rattle.redis_resp.specs.Same.{same}
pub use Rattle.redis_resp.specs.SameLaws.{same_value_laws}
pub use Rattle.redis_resp.specs.Source.{all_four, all_left, all_three, both, items_held, lent_tree, owned_left}
pub use Rattle.redis_resp.specs.Source.{pairs_held}
pub use Rattle.redis_resp.specs.Table.{Fields, entries_meaning, field_record, fields_reading, last_with}
pub use Rattle.redis_resp.specs.Table.{pairs_reading, table_of, table_reading}
pub use Rattle.redis_resp.specs.Text.{text_reading}
pub use Rattle.redis_resp.specs.Tree.{Tree, array, array_of_plain, attribute, bulk, int, items, map_of_pairs, nil}
pub use Rattle.redis_resp.specs.Tree.{pairs, pairs_in, plain, push, set, simple, trees, verbatim}
pub use Rattle.redis_resp.specs.Value.{tree, tree_of_pair}
pub use Rattle.redis_streams.specs.AutoClaimLaws.{InvalidEntriesTellNil}
pub use Rattle.redis_streams.specs.Info.{Consumer, Group, StreamInfo, TrackedStream, consumer_reading}
pub use Rattle.redis_streams.specs.Info.{consumers_reading, empty_consumer, empty_group, empty_stream, empty_tracked}
pub use Rattle.redis_streams.specs.Info.{group_reading, groups_reading, info_entry_reading, number_or_nil_reading}
pub use Rattle.redis_streams.specs.Info.{stream_reading, tracked_reading}
pub use Rattle.redis_streams.specs.InfoFull.{FullConsumer, FullEntry, FullGroup, FullPending, FullStream, OwnPending}
pub use Rattle.redis_streams.specs.InfoFull.{empty_full_consumer, empty_full_entry, empty_full_group}
pub use Rattle.redis_streams.specs.InfoFull.{empty_full_pending, empty_full_stream, empty_own_pending}
pub use Rattle.redis_streams.specs.InfoFull.{full_consumer_reading, full_entry_reading, full_group_reading}
pub use Rattle.redis_streams.specs.InfoFull.{full_pending_reading, full_reading, own_pending_reading}
pub use Rattle.redis_streams.specs.InfoFull.{time_or_nil_reading}
pub use Rattle.redis_streams.specs.InfoFullMeaning.{full_consumer_meaning, full_entry_meaning, full_group_meaning}
pub use Rattle.redis_streams.specs.InfoFullMeaning.{full_meaning, full_pending_meaning, own_pending_meaning}
pub use Rattle.redis_streams.specs.InfoFullRefusal.{RefusesFull, RefusesFullConsumer, RefusesFullEntry}
pub use Rattle.redis_streams.specs.InfoFullRefusal.{RefusesFullGroup, RefusesFullPending, RefusesOwnPending}
pub use Rattle.redis_streams.specs.InfoMeaning.{consumer_meaning, consumers_meaning, group_meaning, groups_meaning}
pub use Rattle.redis_streams.specs.InfoMeaning.{stream_info_meaning, tracked_meaning}
pub use Rattle.redis_streams.specs.InfoRefusal.{RefusesConsumerField, RefusesConsumers, RefusesGroupField}
pub use Rattle.redis_streams.specs.InfoRefusal.{RefusesGroups, RefusesInfoEntry, RefusesNamed, RefusesStream}
pub use Rattle.redis_streams.specs.InfoRefusal.{RefusesTracked}
pub use Rattle.redis_streams.specs.OtherKeys.{HasMoreInStream, MoreChangesNothing, OtherKeysChangeNothing}
pub use Rattle.redis_streams.specs.OtherKeys.{consumer_names, full_consumer_names, full_group_names, full_names}
pub use Rattle.redis_streams.specs.OtherKeys.{group_names, stream_names, tracked_names}
pub use Rattle.redis_streams.specs.Pending.{PendingEntry, PendingSummary, empty_pending_entry, empty_summary}
pub use Rattle.redis_streams.specs.Pending.{pending_count_reading, pending_reading}
pub use Rattle.redis_streams.specs.PendingMeaning.{count_of, data_meaning, pending_id_meaning, pending_ids_meaning}
pub use Rattle.redis_streams.specs.PendingMeaning.{pending_meaning}
pub use Rattle.redis_streams.specs.PendingRefusal.{RefusesPending, RefusesPendingCount}
pub use Rattle.redis_streams.specs.StatusMeaning.{xackdel_code, xackdel_of_code, xackdel_reading, xackdel_refusal}
pub use Rattle.redis_streams.specs.StatusMeaning.{xdelex_code, xdelex_of_code, xdelex_reading, xdelex_refusal}
pub use Rattle.redis_wire.specs.Count.{value_count}
pub use Rattle.redis_wire.specs.Decoded.{Decodes, EndTooEarly, IsFirstFault, IsIncomplete, IsWhole, NoReply}
pub use Rattle.redis_wire.specs.Equality.{AreEqual}
pub use Rattle.redis_wire.specs.Failure.{pack_error, pack_failure, parsing_failure, reply_failure, wire_failure}
pub use Rattle.redis_wire.specs.Failure.{write_failure}
unfoldable pub use Rattle.redis_wire.specs.Grammar.{IsAnyReply}
pub use Rattle.redis_wire.specs.Grammar.{IsReply}
pub use Rattle.redis_wire.specs.Laws.{CommandsAreValues, FewBytesHaveFewValues, RepliesAreApart}
pub use Rattle.redis_wire.specs.Limits.{default_limits}
pub use Rattle.redis_wire.specs.Next.{Held, IsRefused, LenIs, NextIs}
pub use Rattle.redis_wire.specs.Nodes.{AreEnds as AreNodeEnds, AreNodes, Finds, Say}
unfoldable pub use Rattle.redis_wire.specs.Packed.{command_bytes}
pub use Rattle.redis_wire.specs.Packed.{command_tree}
pub use Rattle.redis_wire.specs.PackedArgs.{IsPacked, IsTooLarge, MayRefuse as MayRefusePacked}
unfoldable pub use Rattle.redis_wire.specs.PackedArgs.{args_in}
pub use Rattle.redis_wire.specs.Place.{IsArrayAt, IsIntAt, IsMapAt, IsNilAt, IsTextAt}
pub use Rattle.redis_wire.specs.Record.{IsErrorOf, IsRecord}
pub use Rattle.redis_wire.specs.Reply.{Answer, Answers, answer, code_of, first_error, group, message_of, pushed}
pub use Rattle.redis_wire.specs.Reply.{refused, value}
pub use Rattle.redis_wire.specs.Words.{AreUnpacked, AreWordsOf}
pub use Rattle.redis_wire.specs.WrittenReply.{answer_bytes}
pub use Rattle.stream_commands.specs.Fields.{AreAnyFields, AreFields, any_fields, each_joined, fields_joined}
pub use Rattle.stream_commands.specs.Fields.{one_field, then_fields, those_set}
pub use Rattle.stream_commands.specs.NonEmpty.{NonEmpty, all}
pub use Rattle.stream_commands.specs.Read.{read_word}
pub use Rattle.stream_commands.specs.WholeCommands.{AddPartsFit, AutoClaimPartsFit, ClaimPartsFit, IsApart}
pub use Rattle.stream_commands.specs.WholeCommands.{IsDetermined, NumbersAreApart, ReadPartsFit, SameAdd}
pub use Rattle.stream_commands.specs.WholeCommands.{SameAutoClaim, SameClaim, SameRead, SameTrim, TrimPartsFit}
pub use Rattle.stream_commands.specs.WholeCommands.{add_list, autoclaim_list, claim_list, read_list, trim_list}
pub use Rattle.stream_entries.specs.AutoClaim.{AutoClaim, autoclaim_reading, empty_autoclaim, id_entries}
pub use Rattle.stream_entries.specs.AutoClaimMeaning.{autoclaim_meaning}
pub use Rattle.stream_entries.specs.Entry.{Entry, empty_entry, entry_of}
pub use Rattle.stream_entries.specs.EntryMeaning.{delivery_of, entries_of, entry_meaning, row_of}
pub use Rattle.stream_entries.specs.JustId.{JustId, RefusesJustId, empty_justid, justid_reading}
pub use Rattle.stream_entries.specs.JustIdMeaning.{justid_meaning}
pub use Rattle.stream_entries.specs.OverlapLaws.{BothRecordsAreShape, ClaimIsGiven, EachEntryIsRead, RecordsDiffer}
pub use Rattle.stream_entries.specs.OverlapLaws.{StandardIsGiven}
pub use Rattle.stream_entries.specs.Read.{Streams, delivered_entry, delivery_reading, read_reading}
unfoldable pub use Rattle.stream_entries.specs.Read.{claim_reading, standard_reading}
pub use Rattle.stream_entries.specs.ReadMeaning.{stream_key_meaning, streams_of}
pub use Rattle.stream_entries.specs.Readable.{list_readable, table_readable}
pub use Rattle.stream_entries.specs.Refusal.{RefusesAutoClaim, RefusesFields, RefusesOptionalText, RefusesRead}
pub use Rattle.stream_entries.specs.Refusal.{RefusesRow, RefusesRows}
pub use Rattle.stream_entries.specs.Respelling.{AutoclaimAlike, ClaimAlike, RangeAlike, ReadAlike}
pub use Rattle.stream_entries.specs.RespellingLaws.{HoldsOfEqual, IsSymmetric, KeepsRecord, ProtocolsAreAlike}
pub use Rattle.stream_entries.specs.RespellingLaws.{rows_of_two}
pub use Rattle.stream_entries.specs.Rows.{field_reading, row_reading, standard_entries}
unfoldable pub use Rattle.stream_entries.specs.Rows.{rows_reading}
pub use Rattle.stream_entries.specs.SameEntryLaws.{same_entry_laws}
pub use Rattle.stream_entries.specs.SameEntryMeaning.{same_entry}
pub use Rattle.stream_options.specs.Add.{Add as AddSettings, AddFits, add_sentence, add_words, default_add}
pub use Rattle.stream_options.specs.AddCalls.{final_add}
pub use Rattle.stream_options.specs.AutoClaim.{AutoClaim as AutoClaimSettings, AutoClaimFits, autoclaim_sentence}
pub use Rattle.stream_options.specs.AutoClaim.{autoclaim_words, default_autoclaim}
pub use Rattle.stream_options.specs.AutoClaimCalls.{final_autoclaim}
pub use Rattle.stream_options.specs.Claim.{Claim as ClaimSettings, ClaimFits, claim_sentence, claim_words}
pub use Rattle.stream_options.specs.Claim.{default_claim}
pub use Rattle.stream_options.specs.ClaimCalls.{final_claim}
pub use Rattle.stream_options.specs.Config.{Config as ConfigSettings, IsConfig, IsDuration, IsMaxsize}
pub use Rattle.stream_options.specs.Config.{config_sentence, config_words}
pub use Rattle.stream_options.specs.ConfigCalls.{final_config}
pub use Rattle.stream_options.specs.GroupMeaning.{group_of}
pub use Rattle.stream_options.specs.Idempotency.{IdempotencyFits, automatic, idempotency_sentence, idempotency_words}
pub use Rattle.stream_options.specs.Idempotency.{manual}
pub use Rattle.stream_options.specs.Laws.{Any, Determines, Equal, IsExact, LastCallWins, SettersCommute}
pub use Rattle.stream_options.specs.Maxlen.{MaxlenFits, maxlen_sentence, maxlen_words}
pub use Rattle.stream_options.specs.Nack.{Nack as NackSettings, nack_sentence, nack_words}
pub use Rattle.stream_options.specs.Policy.{policy_sentence, policy_word, policy_words}
pub use Rattle.stream_options.specs.Read.{CountAlike, Read as ReadSettings, ReadFits, default_read, group_sentence}
pub use Rattle.stream_options.specs.Read.{group_with, read_sentence, read_words}
pub use Rattle.stream_options.specs.ReadCalls.{final_read}
pub use Rattle.stream_options.specs.StrategyCalls.{final_strategy}
pub use Rattle.stream_options.specs.Trim.{StrategyFits, Trim as TrimSettings, TrimFits, max_len, min_id}
pub use Rattle.stream_options.specs.Trim.{mode_sentence, mode_word, mode_words, strategy_sentence, strategy_words}
pub use Rattle.stream_options.specs.Trim.{trim_sentence, trim_words, unlimited}
pub use Rattle.stream_options.specs.TrimCalls.{final_trim}
pub use Rattle.stream_options.specs.View.{idempotency_of, maxlen_of, mode_of, nack_of, policy_of, strategy_of}
pub use Rattle.stream_options.specs.Words.{IsFree, among}
pub use Rattle.stream_in_place.specs.AutoClaim.{copied_autoclaim, IsAutoClaim, IsJustId}
pub use Rattle.stream_in_place.specs.ClaimOutcome.{IsAutoClaimInPlace, IsAutoClaimOutcome, IsJustIdInPlace, IsJustIdOutcome}
pub use Rattle.stream_in_place.specs.ClaimPlaced.{AreClaimPlaces, AreJustIdPlaces, autoclaim_in, justid_in}
pub use Rattle.stream_in_place.specs.Copied.{NotOwned, copied, copied_stream, copied_streams, pairs_or_none}
pub use Rattle.stream_in_place.specs.FieldValue.{signed_value, text_value, unsigned_value}
pub use Rattle.stream_in_place.specs.Held.{Held as HeldPlaces, none_held}
pub use Rattle.stream_in_place.specs.IdParts.{behind_text, id_in, id_number, id_text}
pub use Rattle.stream_in_place.specs.Outcome.{IsRangeInPlace, IsRangeOutcome, IsReadInPlace, IsReadOutcome}
pub use Rattle.stream_in_place.specs.Placed.{IsEntry, IsField, IsStream, entry_in, field_in, fields_if, stream_in}
pub use Rattle.stream_in_place.specs.Range.{IsRange, IsRead}
pub use Rattle.stream_in_place.specs.Sent.{AreAllNamed, AreNamed, AreTextFields, Pairs, SentAutoClaim, SentEntry}
pub use Rattle.stream_in_place.specs.Sent.{SentStream, is_none}
pub use Rattle.stream_in_place.specs.SentMeaning.{claim_of, octet_pair, octet_pairs, sent_all, sent_of}
pub use Rattle.stream_in_place.specs.SentReading.{octet_pairs_reading, octets_reading, sent_autoclaim_reading}
pub use Rattle.stream_in_place.specs.SentReading.{sent_fields_reading, sent_row_reading, sent_streams_reading}
pub use Rattle.stream_in_place.specs.SentRefusal.{RefusesOctetPairs, RefusesOctets, RefusesSentAutoClaim}
pub use Rattle.stream_in_place.specs.SentRefusal.{RefusesSentFields, RefusesSentRow, RefusesSentStreams}
pub use Rattle.stream_in_place.specs.Shapes.{BeginsWithAutoClaim, BeginsWithJustId, BeginsWithRange, BeginsWithStreams}
pub use Rattle.stream_option_parsing.specs.Parts.{add_of as add_of_parts, autoclaim_of as autoclaim_of_parts}
pub use Rattle.stream_option_parsing.specs.Parts.{claim_of as claim_of_parts, group_of as group_of_names}
pub use Rattle.stream_option_parsing.specs.Parts.{read_of as read_of_parts, trim_of as trim_of_parts}
pub use Rattle.stream_option_parsing.specs.Split.{HasNoSplit, IsOneSplit, IsSplit, arguments}
pub use Rattle.stream_option_parsing.specs.Told.{WroteAnswer, WroteAnswerBeginning}
