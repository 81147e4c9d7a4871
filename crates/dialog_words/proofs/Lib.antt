mod NewItems
